use Rattle.std.proofs.Common.{drop}
use Rattle.stm_machine.proofs.BlocksInTurn.{AreEntries}
use Rattle.stm_machine.proofs.restored.entries.Given as goal

abbrev pub invariant-loop-block : goal.invariant-loop-block
invariant-loop-block l = AreEntries l.blocks (drop l.block-index l.blocks) l.waiting
