use Rattle.std.proofs.Common.{take}
use Rattle.stm_events.specs.Labels.{AreSameLabels, labels_from}
use Rattle.stm_history.proofs.labels.follow_labels.Given as goal

abbrev pub invariant-loop-event : goal.invariant-loop-event
invariant-loop-event l = AreSameLabels l.labels (labels_from l.initial.labels (take l.event-index l.history))
