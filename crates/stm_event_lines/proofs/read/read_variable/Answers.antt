use Rattle.std.proofs.Common.{Err, ap}
use Rattle.serde_json.specs.View.{view}
use Rattle.stm_event_lines.specs.Fits.{FitsVariable}
use Rattle.stm_event_lines.specs.Lines.{variable_line}
use Rattle.stm_event_lines.specs.ReadLines.{declared}
use Rattle.stm_event_lines.proofs.ReadAs.{reads_as}
use Rattle.stm_event_lines.proofs.ReadsBack.{variable_unread, variable_is}
use Rattle.stm_event_lines.proofs.read.read_variable.Goals as goal

pub returns-in-Err : goal.returns-in-Err
returns-in-Err c = λ b d f l. variable_unread c.args.line.now d f l (c.in-Err.ensures.bad (ap (λ x. Err x) b))

pub returns-in-Ok : goal.returns-in-Ok
returns-in-Ok c =
    reads_as declared FitsVariable variable_line c.args.line.now c.variable_in.result c.variable_in.ensures.fits c.variable_in.ensures.ok
    (λ b d f l. c.variable_in.ensures.bad b d f (variable_is c.args.line.now d (view c.in-Ok.json) f l c.in-Ok.ensures.ok) l)
