use Rattle.std.proofs.Common.{rules}
use Rattle.stm_journaled_run.proofs.RangesSoFar.{cell_next}
use Rattle.stm_journaled_run.proofs.ranges.cells_in_range.Goals as goal

pub loop-id-preserved : goal.loop-id-preserved
loop-id-preserved c = cell_next c.args.store.now c.loop-id.id (search rules) c.loop-id.invariant c.cell_in_range.ensures
