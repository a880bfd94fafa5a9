use Rattle.std.proofs.Common.{◌≡◌, ℕ, drop}
use Rattle.std.specs.HashSet.{contains}
use Rattle.std.specs.Prelude.{nat_eq}
use Rattle.stm_events.specs.KeptCauses.{kept_cause_of}
use Rattle.stm_desk.specs.Causes.{cause_sought}
use Rattle.stm_desk.specs.Reasons.{kept_cause_in}
use Rattle.stm_desk.proofs.causes.find_kept.Given as goal

-- the causes so far, with those of the blocks from here on
abbrev pub invariant-loop-block : goal.invariant-loop-block
invariant-loop-block l =
    (t : ℕ) → cause_sought (contains nat_eq l.missing t) (kept_cause_in t (drop l.block-index l.blocks)) (kept_cause_of t l.causes)
    ≡ cause_sought (contains nat_eq l.fn.missing t) (kept_cause_in t l.blocks) (kept_cause_of t l.fn.causes)
