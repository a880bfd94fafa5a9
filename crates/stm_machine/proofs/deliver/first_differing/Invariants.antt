use Rattle.std.proofs.Common.{◌≡◌, drop}
use Rattle.stm_events.specs.SlowDesk.{under}
use Rattle.stm_events.specs.Refusals.{differing}
use Rattle.stm_machine.proofs.deliver.first_differing.Given as goal

abbrev pub invariant-loop-id : goal.invariant-loop-id
invariant-loop-id l = differing (under l.store) (drop l.id-index l.reads) ≡ differing (under l.store) l.reads
