use Rattle.std.proofs.Common.{Err, ap}
use Rattle.serde_json.specs.View.{view}
use Rattle.stm_event_lines.proofs.ReadsBack.{header_is, header_no_next, header_unread}
use Rattle.stm_event_lines.proofs.loose.loose_header.Goals as goal

pub returns-in-Ok : goal.returns-in-Ok
returns-in-Ok c = (
  c.header_read.ensures.fits,
  λ h f l.
      let line = c.args.line.now in
      let g = view c.in-Ok.json in
      c.header_read.ensures.same h f (header_is line h.format h.vars g f.0 f.1 l c.in-Ok.ensures.ok) (header_no_next line h.format h.vars g f.0 f.1 l c.in-Ok.ensures.ok),
)

pub returns-in-Err-Bad : goal.returns-in-Err-Bad
returns-in-Err-Bad c = (tt, λ h f l. absurd (header_unread c.args.line.now h.format h.vars f.0 f.1 l (c.in-Err-Bad.ensures.bad (ap (λ x. Err x) c.in-Err-Bad.field-0-is))))
