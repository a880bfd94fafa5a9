use Rattle.std.proofs.Common.{Err, ap, ◌∙◌}
use Rattle.serde_json.specs.View.{view}
use Rattle.stm_event_lines.proofs.Checkpoints.{checkpoint_header_in_is, checkpoint_header_unread}
use Rattle.stm_event_lines.proofs.ReadAs.{header_fits_if}
use Rattle.stm_event_lines.proofs.loose.loose_checkpoint_header.Goals as goal

pub returns-in-Ok : goal.returns-in-Ok
returns-in-Ok c = (
  header_fits_if c.checkpoint_header_read.result c.checkpoint_header_read.ensures.format c.checkpoint_header_read.ensures.fits,
  λ h f l. c.checkpoint_header_read.ensures.value ∙ checkpoint_header_in_is c.args.line.now h.format h.next h.vars h.waiting (view c.in-Ok.json) f.0 f.1 f.2 f.3 l c.in-Ok.ensures.ok,
)

pub returns-in-Err-Bad : goal.returns-in-Err-Bad
returns-in-Err-Bad c = (
  tt,
  λ h f l. absurd (checkpoint_header_unread c.args.line.now h.format h.next h.vars h.waiting f.0 f.1 f.2 f.3 l (c.in-Err-Bad.ensures.bad (ap (λ x. Err x) c.in-Err-Bad.field-0-is))),
)
