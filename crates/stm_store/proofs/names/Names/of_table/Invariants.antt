use Rattle.std.proofs.Common.{◌≡◌, take}
use Rattle.stm_store.specs.Naming.{named_in_table}
use Rattle.stm_store.proofs.names.Names.of_table.Given as goal

abbrev pub invariant-loop-id : goal.invariant-loop-id
invariant-loop-id l = l.names ≡ named_in_table (take l.id l.table)
