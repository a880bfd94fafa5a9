use Rattle.std.proofs.Common.{subst}
use Rattle.stm_events.specs.Labels.{Labels, labelled, AreSameLabels}
use Rattle.stm_events.proofs.LabelTables.{label_put}
use Rattle.stm_events.proofs.label_table.LabelTable.set.Goals as goal

pub returns-clause-done : goal.returns-clause-done
returns-clause-done c =
    subst (λ (old : Labels). AreSameLabels c.insert.new.self.entries (labelled c.args.ticket c.args.label old)) c.self.view_is
    (label_put c.args.ticket c.args.label c.self.inside.labels.entries c.insert.new.self.entries c.in-Ok.ensures.updates.0)
