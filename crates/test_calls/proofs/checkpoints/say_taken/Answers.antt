use Rattle.std.proofs.Common.{sym, subst}
use Rattle.stm_events.specs.Labels.{AreLabels}
use Rattle.stm_machine.proofs.CheckpointLabels.{no_label_is}
use Rattle.test_calls.proofs.checkpoints.say_taken.Goals as goal

pub checkpoint-requires-clause-labels : goal.checkpoint-requires-clause-labels
checkpoint-requires-clause-labels c = subst AreLabels (sym c.empty.ensures) (λ t. no_label_is)
