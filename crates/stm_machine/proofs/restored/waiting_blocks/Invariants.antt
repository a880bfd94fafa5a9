use Rattle.stm_machine.proofs.CheckpointTaken.{IsWalked}
use Rattle.stm_machine.proofs.restored.waiting_blocks.Given as goal

abbrev pub invariant-loop : goal.invariant-loop
invariant-loop l = IsWalked l.pending.entries l.waiting l.counter l.after l.blocks.items
