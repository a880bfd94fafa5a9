use Rattle.std.proofs.Common.{rules}
use Rattle.stm_journaled_run.proofs.RangesSoFar.{block_more}
use Rattle.stm_journaled_run.proofs.ranges.blocks_in_range.Goals as goal

pub loop-block-preserved : goal.loop-block-preserved
loop-block-preserved c = block_more c.args.blocks.now c.loop-block.block-index c.block-item.result (search rules) c.block-item.is c.loop-block.invariant c.block_in_range.ensures
