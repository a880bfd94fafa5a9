use Rattle.std.proofs.Common.{List, [], ℕ, Option, ap, ◌∙◌}
use Rattle.std.specs.Prelude.{unwrap_or}
use Rattle.stm_events.specs.Labels.{label_of}
use Rattle.stm_events.proofs.LabelTables.{label-lookup}
use Rattle.stm_events.proofs.label_table.LabelTable.find.Goals as goal

pub returns : goal.returns
returns c = ap (λ (o : Option (List ℕ)). unwrap_or o []) c.get.ensures.value ∙ label-lookup c.args.ticket c.self.inside.labels.entries ∙ ap (label_of c.args.ticket) c.self.view_is
