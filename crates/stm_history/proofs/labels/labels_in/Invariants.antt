use Rattle.std.proofs.Common.{take}
use Rattle.stm_events.specs.Labels.{AreSameLabels}
use Rattle.stm_machine.specs.Checkpoints.{labels_in}
use Rattle.stm_history.proofs.labels.labels_in.Given as goal

abbrev pub invariant-loop-block : goal.invariant-loop-block
invariant-loop-block l = AreSameLabels l.labels (labels_in (take l.block-index l.blocks))
