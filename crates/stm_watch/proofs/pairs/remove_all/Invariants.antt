use Rattle.std.proofs.Common.{◌≡◌, ℕ, drop}
use Rattle.std.specs.Prelude.{◌&&◌, not, nat_eq}
use Rattle.std.specs.List.{list_any}
use Rattle.stm_watch.specs.Tabled.{holds}
use Rattle.stm_watch.proofs.pairs.remove_all.Given as goal

abbrev pub invariant-loop-variable : goal.invariant-loop-variable
invariant-loop-variable l = (v t : ℕ) → (holds l.table v t && not (nat_eq t l.ticket && list_any (nat_eq v) (drop l.variable-index l.variables))) ≡ (holds l.fn.table v t && not (nat_eq t l.ticket && list_any (nat_eq v) l.variables))
