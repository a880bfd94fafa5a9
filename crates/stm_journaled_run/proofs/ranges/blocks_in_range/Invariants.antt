use Rattle.std.proofs.Common.{take}
use Rattle.stm_journaled_run.specs.Ranges.{AreBlocksInRange}
use Rattle.stm_journaled_run.proofs.ranges.blocks_in_range.Given as goal

abbrev pub invariant-loop-block : goal.invariant-loop-block
invariant-loop-block l = AreBlocksInRange (take l.block-index l.blocks)
