use Rattle.std.proofs.Common.{◌∙◌, ap}
use Rattle.stm_events.specs.KeptCauses.{kept_cause_of}
use Rattle.stm_events.proofs.LabelTables.{cause-lookup}
use Rattle.stm_events.proofs.kept_cause.CauseTable.cause_of.Goals as goal

pub returns : goal.returns
returns c = c.get.ensures.value ∙ cause-lookup c.args.ticket c.self.inside.causes.entries ∙ ap (kept_cause_of c.args.ticket) c.self.view_is
