use Rattle.std.proofs.Common.{◌∙◌}
use Rattle.std.specs.Option.{option_copied}
use Rattle.stm_machine.specs.Checkpoints.{first_labels}
use Rattle.stm_history.proofs.HistoryLabels.{same_from}
use Rattle.stm_history.proofs.labels.labels_after_history.Goals as goal

pub returns-in-Ok : goal.returns-in-Ok
returns-in-Ok c = λ t.
    let first = first_labels (option_copied c.args.checkpoint) in
    c.in-Ok.ensures t ∙ same_from c.args.history.now c.in_ok-labels.labels first c.in_ok-labels.ensures t
