use Rattle.stm_machine.proofs.CheckpointStates.{checkpoints_are_unseen}
use Rattle.stm_machine.proofs.checkpoint.checkpoints_are_unseen.Goals as goal

pub returns : goal.returns
returns c = checkpoints_are_unseen
