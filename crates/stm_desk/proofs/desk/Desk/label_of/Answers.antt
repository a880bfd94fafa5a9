use Rattle.std.proofs.Common.{ap, ◌∙◌}
use Rattle.stm_events.specs.Labels.{label_of}
use Rattle.stm_desk.specs.DeskView.{DeskView, labels_of}
use Rattle.stm_desk.proofs.desk.Desk.label_of.Goals as goal

pub returns : goal.returns
returns c = c.label_of.ensures ∙ c.self.invariant.1.same c.args.ticket ∙ ap (λ (d : DeskView). label_of c.args.ticket (labels_of d)) c.self.view_is
