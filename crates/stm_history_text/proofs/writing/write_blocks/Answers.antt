use Rattle.std.proofs.Common.{rules}
use Rattle.stm_history_text.specs.HistoryText.{block_lines}
use Rattle.stm_history_text.proofs.TextInParts.{part_of, whole_of, block_lines-append}
use Rattle.stm_history_text.proofs.writing.write_blocks.Goals as goal

pub returns-in-Err : goal.returns-in-Err
returns-in-Err g c = part_of block_lines block_lines-append c.args.blocks.now c.loop-block.block-index c.block-item.result (search rules) c.block-item.is _ _ _ c.loop-block.invariant c.in-Err.ensures

pub loop-block-preserved : goal.loop-block-preserved
loop-block-preserved g c = whole_of block_lines block_lines-append c.args.blocks.now c.loop-block.block-index c.block-item.result (search rules) c.block-item.is _ _ _ c.loop-block.invariant c.in-Ok.ensures
