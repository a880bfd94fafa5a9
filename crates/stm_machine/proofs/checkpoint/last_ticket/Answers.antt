use Rattle.std.proofs.Common.{arith}
use Rattle.stm_machine.proofs.RightDeliveries.{last_is}
use Rattle.stm_machine.proofs.checkpoint.last_ticket.Goals as goal

pub returns-else-blocks-eq0 : goal.returns-else-blocks-eq0
returns-else-blocks-eq0 c = last_is c.args.blocks.now _ c.index-blocks-blocks.result (omega (arith, c.if-blocks-eq0.false))
