use Rattle.std.proofs.Common.{Err, ap}
use Rattle.serde_json.specs.View.{view}
use Rattle.stm_events.specs.declared.event.Event.{Event}
use Rattle.stm_event_lines.specs.Fits.{FitsNames}
use Rattle.stm_event_lines.specs.Lines.{event_line}
use Rattle.stm_event_lines.proofs.ReadAs.{reads_as}
use Rattle.stm_event_lines.proofs.ReadsBack.{event_unread, event_is}
use Rattle.stm_event_lines.proofs.read.read_by_value.Goals as goal

pub returns-in-Err-clause-read : goal.returns-in-Err-clause-read
returns-in-Err-clause-read c = λ b e f l. event_unread c.args.known.now c.args.line.now e f l (c.in-Err.ensures.bad (ap (λ x. Err x) b))

pub returns-in-Ok-clause-read : goal.returns-in-Ok-clause-read
returns-in-Ok-clause-read c =
    reads_as (λ (e : Event). e) (FitsNames c.args.known.now) event_line c.args.line.now c.event_in.result c.event_in.ensures.fits c.event_in.ensures.ok
    (λ b e f l. c.event_in.ensures.bad b e (event_is c.args.known.now c.args.line.now e (view c.in-Ok.json) f l c.in-Ok.ensures.ok) l)
