use Rattle.std.proofs.Common.{ℕ, drop}
use Rattle.std.specs.HashSet.{contains}
use Rattle.std.specs.Prelude.{nat_eq}
use Rattle.stm_events.specs.KeptCauses.{kept_cause_of}
use Rattle.stm_desk.specs.Causes.{cause_by, cause_in_list, reads_under}
use Rattle.stm_desk.proofs.Seeking.{GoesOn}
use Rattle.stm_desk.proofs.desk.Desk.find_in_list.Given as goal

-- what is found in the list from here on makes it what is found in the list
abbrev pub invariant-loop-ticket : goal.invariant-loop-ticket
invariant-loop-ticket l =
    (t : ℕ) → GoesOn (contains nat_eq l.fn.missing t) (kept_cause_of t l.fn.causes) (cause_in_list t (cause_by l.finish l.first_new l.verdict (reads_under l.self t)) l.stale)
    (contains nat_eq l.missing t) (kept_cause_of t l.causes) (cause_in_list t (cause_by l.finish l.first_new l.verdict (reads_under l.self t)) (drop l.ticket-index l.stale))
