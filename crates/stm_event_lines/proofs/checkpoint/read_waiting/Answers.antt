use Rattle.std.proofs.Common.{Err, ap}
use Rattle.serde_json.specs.View.{view}
use Rattle.stm_event_lines.specs.declared.checkpoint.WaitingBlock.{WaitingBlock}
use Rattle.stm_event_lines.specs.CheckpointLines.{FitsWaitingBlock, line_of_waiting}
use Rattle.stm_event_lines.proofs.Checkpoints.{waiting_unread, waiting_is}
use Rattle.stm_event_lines.proofs.ReadAs.{reads_as}
use Rattle.stm_event_lines.proofs.checkpoint.read_waiting.Goals as goal

pub returns-in-Err : goal.returns-in-Err
returns-in-Err c = λ b w f l. waiting_unread c.args.known.now c.args.line.now w.ticket w.block w.cause w.label w.delivery f l (c.in-Err.ensures.bad (ap (λ x. Err x) b))

pub returns-in-Ok : goal.returns-in-Ok
returns-in-Ok c =
    reads_as (λ (w : WaitingBlock). w) (FitsWaitingBlock c.args.known.now) line_of_waiting c.args.line.now c.waiting_in.result c.waiting_in.ensures.fits c.waiting_in.ensures.ok
    (λ b w f l. c.waiting_in.ensures.bad b w.ticket w.block w.cause w.label w.delivery
    (waiting_is c.args.known.now c.args.line.now w.ticket w.block w.cause w.label w.delivery (view c.in-Ok.json) f l c.in-Ok.ensures.ok) l)
