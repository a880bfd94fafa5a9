use Rattle.std.proofs.Common.{take}
use Rattle.stm_journaled_run.specs.Ranges.{AreEventsInRange}
use Rattle.stm_journaled_run.proofs.ranges.are_in_range.Given as goal

abbrev pub invariant-loop-event : goal.invariant-loop-event
invariant-loop-event l = AreEventsInRange (take l.event-index l.events)
