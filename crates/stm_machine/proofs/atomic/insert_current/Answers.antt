use Rattle.stm_machine.proofs.BlocksByTicket.{inserted_waits}
use Rattle.stm_machine.proofs.atomic.insert_current.Goals as goal

pub hold-requires : goal.hold-requires
hold-requires c = inserted_waits _ _ _ _ c.requires c.in_ok-insert_watched.ensures.inserted
