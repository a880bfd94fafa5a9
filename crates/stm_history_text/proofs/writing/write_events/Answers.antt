use Rattle.std.proofs.Common.{rules}
use Rattle.stm_history_text.specs.HistoryText.{event_lines}
use Rattle.stm_history_text.proofs.TextInParts.{part_of, whole_of, event_lines-append}
use Rattle.stm_history_text.proofs.writing.write_events.Goals as goal

pub returns-in-Err : goal.returns-in-Err
returns-in-Err g c = part_of event_lines event_lines-append c.args.history.now c.loop-event.event-index c.event-item.result (search rules) c.event-item.is _ _ _ c.loop-event.invariant c.in-Err.ensures

pub loop-event-preserved : goal.loop-event-preserved
loop-event-preserved g c = whole_of event_lines event_lines-append c.args.history.now c.loop-event.event-index c.event-item.result (search rules) c.event-item.is _ _ _ c.loop-event.invariant c.in-Ok.ensures
