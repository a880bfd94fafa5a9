use Rattle.std.proofs.Common.{drop}
use Rattle.stm_machine.proofs.BlocksInTurn.{AreDueTickets}
use Rattle.stm_machine.proofs.restored.due_tickets.Given as goal

abbrev pub invariant-loop-block : goal.invariant-loop-block
invariant-loop-block l = AreDueTickets l.blocks (drop l.block-index l.blocks) l.pending.entries
