use Rattle.std.proofs.Common.{ℕ, ◌≤◌, drop, length}
use Rattle.std.specs.HashSet.{contains}
use Rattle.std.specs.Prelude.{nat_eq}
use Rattle.stm_events.specs.KeptCauses.{kept_cause_of}
use Rattle.stm_desk.specs.Causes.{last_listed, reads_under, IsSought}
use Rattle.stm_desk.proofs.desk.Desk.find_from_end.Given as goal

-- the events from here on have been gone through
abbrev pub invariant-loop-i : goal.invariant-loop-i
invariant-loop-i l = record {
  within : l.i ≤ length l.events;
  sought : (t : ℕ) → IsSought (contains nat_eq l.fn.missing t) (kept_cause_of t l.fn.causes) (last_listed t (reads_under l.self t) (drop l.i l.events)) (contains nat_eq l.missing t) (kept_cause_of t l.causes);
}

abbrev pub decreases-loop-i : goal.decreases-loop-i
decreases-loop-i l = l.i
