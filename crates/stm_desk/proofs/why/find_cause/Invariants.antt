use Rattle.std.proofs.Common.{◌≡◌, ◌≤◌, None, drop, length}
use Rattle.stm_desk.specs.Causes.{last_with}
use Rattle.stm_desk.proofs.why.find_cause.Given as goal

-- none of the lists from here on has the ticket
abbrev pub invariant-loop-i : goal.invariant-loop-i
invariant-loop-i l = record {
  within : l.i ≤ length l.history;
  none : last_with l.ticket (drop l.i l.history) ≡ None;
}

abbrev pub decreases-loop-i : goal.decreases-loop-i
decreases-loop-i l = l.i
