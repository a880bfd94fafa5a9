use Rattle.stm_machine.proofs.CheckpointLabels.{causes_leave_checkpoints}
use Rattle.stm_machine.proofs.checkpoint.causes_leave_checkpoints.Goals as goal

pub returns : goal.returns
returns c = causes_leave_checkpoints
