use Rattle.std.proofs.Common.{Err, ap}
use Rattle.serde_json.specs.View.{view}
use Rattle.stm_event_lines.proofs.Checkpoints.{cell_unread}
use Rattle.stm_event_lines.proofs.ReadLoosely.{loose_cell_same}
use Rattle.stm_event_lines.proofs.loose.loose_cell.Goals as goal

pub returns-in-Ok : goal.returns-in-Ok
returns-in-Ok c = loose_cell_same c.cell_read.result c.args.line.now (view c.in-Ok.json) c.in-Ok.ensures.ok c.cell_read.ensures.fits c.cell_read.ensures.same

pub returns-in-Err-Bad : goal.returns-in-Err-Bad
returns-in-Err-Bad c = (tt, λ y f l. absurd (cell_unread c.args.line.now y.0 y.1 f l (c.in-Err-Bad.ensures.bad (ap (λ x. Err x) c.in-Err-Bad.field-0-is))))
