use Rattle.std.proofs.Common.{drop}
use Rattle.stm_machine.proofs.BlocksInTurn.{AreReadyTickets}
use Rattle.stm_machine.proofs.restored.ready_tickets.Given as goal

abbrev pub invariant-loop-block : goal.invariant-loop-block
invariant-loop-block l = AreReadyTickets l.blocks (drop l.block-index l.blocks) l.ready.tickets
