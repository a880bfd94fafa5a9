use Rattle.stm_machine.proofs.CheckpointStates.{checkpoints_are_possible}
use Rattle.stm_machine.proofs.checkpoint.checkpoints_are_possible.Goals as goal

pub returns : goal.returns
returns c = checkpoints_are_possible
