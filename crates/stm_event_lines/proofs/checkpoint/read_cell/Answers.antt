use Rattle.std.proofs.Common.{Err, ap}
use Rattle.serde_json.specs.View.{view}
use Rattle.stm_event_lines.specs.ReadLines.{cell_parts}
use Rattle.stm_event_lines.specs.CheckpointLines.{FitsNamedCell, line_of_cell}
use Rattle.stm_event_lines.proofs.Checkpoints.{cell_unread, cell_is}
use Rattle.stm_event_lines.proofs.ReadAs.{reads_as}
use Rattle.stm_event_lines.proofs.checkpoint.read_cell.Goals as goal

pub returns-in-Err : goal.returns-in-Err
returns-in-Err c = λ b y f l. cell_unread c.args.line.now y.0 y.1 f l (c.in-Err.ensures.bad (ap (λ x. Err x) b))

pub returns-in-Ok : goal.returns-in-Ok
returns-in-Ok c =
    reads_as cell_parts FitsNamedCell line_of_cell c.args.line.now c.cell_in.result c.cell_in.ensures.fits c.cell_in.ensures.ok
    (λ b y f l. c.cell_in.ensures.bad b y.0 y.1 f (cell_is c.args.line.now y.0 y.1 (view c.in-Ok.json) f l c.in-Ok.ensures.ok) l)
