use Rattle.std.proofs.Common.{take}
use Rattle.stm_journaled_run.specs.Ranges.{AreCellsInRange}
use Rattle.stm_journaled_run.proofs.ranges.cells_in_range.Given as goal

abbrev pub invariant-loop-id : goal.invariant-loop-id
invariant-loop-id l = AreCellsInRange (take l.id l.store)
