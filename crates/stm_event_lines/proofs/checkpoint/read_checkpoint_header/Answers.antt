use Rattle.std.proofs.Common.{Err, ap}
use Rattle.serde_json.specs.View.{view}
use Rattle.stm_event_lines.specs.declared.checkpoint.CheckpointHeader.{CheckpointHeader}
use Rattle.stm_event_lines.specs.CheckpointLines.{FitsCheckpointHeader, line_of_checkpoint_header}
use Rattle.stm_event_lines.proofs.Checkpoints.{checkpoint_header_unread, checkpoint_header_is}
use Rattle.stm_event_lines.proofs.ReadAs.{header_fits, reads_as}
use Rattle.stm_event_lines.proofs.checkpoint.read_checkpoint_header.Goals as goal

pub returns-in-Err : goal.returns-in-Err
returns-in-Err c = λ b h f l. checkpoint_header_unread c.args.line.now h.format h.next h.vars h.waiting f.0 f.1 f.2 f.3 l (c.in-Err.ensures.bad (ap (λ x. Err x) b))

pub returns-in-Ok : goal.returns-in-Ok
returns-in-Ok c =
    let r = c.header_in.result in
    reads_as (λ (h : CheckpointHeader). h) FitsCheckpointHeader line_of_checkpoint_header c.args.line.now r (header_fits r c.header_in.ensures.format c.header_in.ensures.small) c.header_in.ensures.ok
    (λ b h f l. c.header_in.ensures.bad b h.format h.next h.vars h.waiting f.0
    (checkpoint_header_is c.args.line.now h.format h.next h.vars h.waiting (view c.in-Ok.json) f.0 f.1 f.2 f.3 l c.in-Ok.ensures.ok) l)
