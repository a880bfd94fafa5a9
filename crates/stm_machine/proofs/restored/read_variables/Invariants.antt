use Rattle.std.proofs.Common.{drop}
use Rattle.stm_machine.proofs.BlocksInTurn.{AreRead}
use Rattle.stm_machine.proofs.restored.read_variables.Given as goal

abbrev pub invariant-loop-block : goal.invariant-loop-block
invariant-loop-block l = AreRead l.blocks (drop l.block-index l.blocks) l.watch
