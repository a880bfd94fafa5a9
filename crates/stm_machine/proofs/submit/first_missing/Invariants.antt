use Rattle.std.proofs.Common.{◌≡◌, drop}
use Rattle.stm_store.specs.Cells.{plains}
use Rattle.stm_events.specs.Refusals.{missing}
use Rattle.stm_machine.proofs.submit.first_missing.Given as goal

abbrev pub invariant-loop-id : goal.invariant-loop-id
invariant-loop-id l = missing (plains l.store) (drop l.id-index l.uses) ≡ missing (plains l.store) l.uses
