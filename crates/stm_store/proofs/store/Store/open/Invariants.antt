use Rattle.std.proofs.Common.{◌≡◌, ◌++◌, drop, length}
use Rattle.stm_store.specs.Tables.{opened}
use Rattle.stm_store.proofs.store.Store.open.Given as goal

abbrev pub invariant-loop-id : goal.invariant-loop-id
invariant-loop-id l = record { cells : l.cells ++ drop l.id (opened l.table) ≡ opened l.table; length : length l.cells ≡ l.id }
