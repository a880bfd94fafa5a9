-- A check that has taken nothing yet.
use Rattle.std.proofs.Common.{◌≡◌, ℕ, Bool, List, [], refl, sym, subst, arith}
use Rattle.stm_history.specs.declared.check.Stage.TheVariants.{Before}
use Rattle.stm_history.specs.Progress.{at_header}
use Rattle.stm_history.specs.Stages.{Reached}

pub reached_start : (keep : Bool) (line : List ℕ) → line ≡ [] → Reached (Before keep) 0 line []
reached_start keep line none =
    subst (λ (l : List ℕ). Reached (Before keep) 0 l []) (sym none)
    (record { progress = at_header; stage = refl; held = record { whole = []; taken_is = refl; lines = refl; one_line = tt; short = omega arith }; counts = refl })
