use Rattle.std.proofs.Common.{◌≡◌, Some, None, sym, ap, ◌∙◌}
use Rattle.std.proofs.lemmas.Slice.Eq.{bytes_eq-Decides}
use Rattle.serde_json.specs.View.{view}
use Rattle.stm_event_lines.specs.declared.checkpoint.CheckpointHeader.{CheckpointHeader}
use Rattle.stm_event_lines.specs.CheckpointLines.{checkpoint_header_line}
use Rattle.stm_event_lines.specs.CheckpointFields.{checkpoint_header_of}
use Rattle.stm_event_lines.proofs.checkpoint.header_in.Goals as goal

pub returns-in_default-clause-bad : goal.returns-in_default-clause-bad
returns-in_default-clause-bad c = λ _ format next vars waiting k h l.
    let none : None ≡ checkpoint_header_of (view c.args.json.now) = sym c.in_default.is ∙ c.header_of.ensures.value in
    cc

pub returns-clause-bad : goal.returns-clause-bad
returns-clause-bad c = λ _ format next vars waiting k h l.
    let some : Some c.in-Some.header ≡ checkpoint_header_of (view c.args.json.now) = sym c.in-Some.is ∙ c.header_of.ensures.value in
    let same : c.in-Some.header ≡ record { format = format; next = next; vars = vars; waiting = waiting } = cc in
    let text : c.as_bytes.result.now ≡ c.args.line.now =
    c.as_bytes.ensures.value ∙ c.in_ok-again.ensures ∙ ap (λ (x : CheckpointHeader). checkpoint_header_line x.format x.next x.vars x.waiting) same ∙ l in
    let yes = (bytes_eq-Decides c.as_bytes.result.now c.args.line.now).1 text in
    cc (yes, c.if-eq.ensures)
