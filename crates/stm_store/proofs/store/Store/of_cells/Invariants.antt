use Rattle.std.proofs.Common.{◌≡◌, take}
use Rattle.stm_store.proofs.store.Store.of_cells.Given as goal

abbrev pub invariant-loop-cell : goal.invariant-loop-cell
invariant-loop-cell l = l.list ≡ take l.cell-index l.cell-items
