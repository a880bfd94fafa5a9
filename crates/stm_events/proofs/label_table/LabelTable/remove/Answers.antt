use Rattle.std.proofs.Common.{subst}
use Rattle.stm_events.specs.Labels.{Labels, without_label, AreSameLabels}
use Rattle.stm_events.proofs.LabelTables.{label_removed}
use Rattle.stm_events.proofs.label_table.LabelTable.remove.Goals as goal

pub returns : goal.returns
returns c =
    subst (λ (old : Labels). AreSameLabels c.remove.new.self.entries (without_label c.args.ticket old)) c.self.view_is
    (label_removed c.args.ticket c.self.inside.labels.entries c.remove.new.self.entries c.remove.ensures.updates.0)
