use Rattle.std.proofs.Common.{take, rules}
use Rattle.stm_history.proofs.HistoryLabels.{one_event_more}
use Rattle.stm_history_text.proofs.TextInParts.{next_at}
use Rattle.stm_history.proofs.labels.follow_labels.Goals as goal

pub loop-event-preserved : goal.loop-event-preserved
loop-event-preserved c =
    let i = c.loop-event.event-index in
    let more = next_at c.args.history.now i c.event-item.result (search rules) c.event-item.is in
    one_event_more c.args.labels.now _ c.loop-event.labels (take i c.args.history.now) _ c.event-item.result c.in-Ok.ensures c.loop-event.invariant more
