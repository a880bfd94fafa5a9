use Rattle.std.proofs.Common.{rules}
use Rattle.stm_journaled_run.proofs.RangesSoFar.{range_more}
use Rattle.stm_journaled_run.proofs.ranges.are_in_range.Goals as goal

pub loop-event-preserved : goal.loop-event-preserved
loop-event-preserved c = range_more c.args.events.now c.loop-event.event-index c.event-item.result (search rules) c.event-item.is c.loop-event.invariant c.event_in_range.ensures
