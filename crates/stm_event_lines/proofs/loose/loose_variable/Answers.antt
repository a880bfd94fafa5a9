use Rattle.std.proofs.Common.{Err, ap}
use Rattle.serde_json.specs.View.{view}
use Rattle.stm_event_lines.proofs.ReadLoosely.{loose_variable_same}
use Rattle.stm_event_lines.proofs.ReadsBack.{variable_unread}
use Rattle.stm_event_lines.proofs.loose.loose_variable.Goals as goal

pub returns-in-Ok : goal.returns-in-Ok
returns-in-Ok c = loose_variable_same c.variable_read.result c.args.line.now (view c.in-Ok.json) c.in-Ok.ensures.ok c.variable_read.ensures.fits c.variable_read.ensures.same

pub returns-in-Err-Bad : goal.returns-in-Err-Bad
returns-in-Err-Bad c = (tt, λ d f l. absurd (variable_unread c.args.line.now d f l (c.in-Err-Bad.ensures.bad (ap (λ x. Err x) c.in-Err-Bad.field-0-is))))
