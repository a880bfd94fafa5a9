use Rattle.std.proofs.Common.{Err, ap}
use Rattle.serde_json.specs.View.{view}
use Rattle.stm_event_lines.proofs.Checkpoints.{waiting_unread}
use Rattle.stm_event_lines.proofs.ReadLoosely.{loose_waiting_same}
use Rattle.stm_event_lines.proofs.loose.loose_waiting.Goals as goal

pub returns-in-Ok : goal.returns-in-Ok
returns-in-Ok c = loose_waiting_same c.waiting_of.result c.args.known.now c.args.line.now (view c.in-Ok.json) c.in-Ok.ensures.ok c.waiting_of.ensures.fits c.waiting_of.ensures.value

pub returns-in-Err-Bad : goal.returns-in-Err-Bad
returns-in-Err-Bad c = (
  tt,
  λ w f l. absurd (waiting_unread c.args.known.now c.args.line.now w.ticket w.block w.cause w.label w.delivery f l (c.in-Err-Bad.ensures.bad (ap (λ x. Err x) c.in-Err-Bad.field-0-is))),
)
