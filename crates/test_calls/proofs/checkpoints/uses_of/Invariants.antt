use Rattle.std.proofs.Common.{◌≡◌, take}
use Rattle.stm_store.specs.Naming.{named_in_table, named_uses}
use Rattle.test_calls.proofs.checkpoints.uses_of.Given as goal

abbrev pub invariant-loop-id : goal.invariant-loop-id
invariant-loop-id l = l.uses.items ≡ named_uses (named_in_table (take l.id l.table))
