use Rattle.std.proofs.Common.{◌+◌, take, rules}
use Rattle.stm_history.proofs.HistoryLabels.{one_block_more}
use Rattle.stm_history_text.proofs.TextInParts.{next_at}
use Rattle.stm_history.proofs.labels.labels_in.Goals as goal

pub loop-block-preserved : goal.loop-block-preserved
loop-block-preserved c =
    let i = c.loop-block.block-index in
    let b = c.block-item.result in
    let more = next_at c.args.blocks.now i b (search rules) c.block-item.is in
    let r = c.requires in
    one_block_more r.0 r.1 (i + 1) c.args.blocks.now (take i c.args.blocks.now) b _ c.loop-block.labels _ r.2 more c.in-Ok.ensures.done c.in_ok-label.ensures c.loop-block.invariant
