use Rattle.stm_machine.proofs.CheckpointLabels.{labels_leave_checkpoints}
use Rattle.stm_machine.proofs.checkpoint.labels_leave_checkpoints.Goals as goal

pub returns : goal.returns
returns c = labels_leave_checkpoints
