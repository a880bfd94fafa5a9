use Rattle.std.proofs.Common.{◌≡◌, Some, None, sym, ap, ◌∙◌}
use Rattle.serde_json.specs.View.{view}
use Rattle.stm_event_lines.specs.declared.checkpoint.WaitingBlock.{WaitingBlock}
use Rattle.stm_event_lines.specs.CheckpointFields.{waiting_of}
use Rattle.stm_event_lines.specs.CheckpointLines.{waiting_line}
use Rattle.stm_event_lines.proofs.checkpoint.waiting_in.Goals as goal

pub returns-in_default-clause-bad : goal.returns-in_default-clause-bad
returns-in_default-clause-bad c = λ _ ticket block why label d h l.
    let none : None ≡ waiting_of c.args.known.now (view c.args.json.now) = sym c.in_default.is ∙ c.in_ok-waiting.ensures.value in
    cc

pub returns-clause-bad : goal.returns-clause-bad
returns-clause-bad c = λ is ticket block why label d h l.
    let w : WaitingBlock = record { ticket = ticket; block = block; cause = why; label = label; delivery = d } in
    let some : Some c.in-Some.waiting ≡ waiting_of c.args.known.now (view c.args.json.now) = sym c.in-Some.is ∙ c.in_ok-waiting.ensures.value in
    let same : c.in-Some.waiting ≡ w = cc in
    c.if_line.ensures.bad is (ap (λ (x : WaitingBlock). waiting_line x.ticket x.block.text x.cause x.label x.delivery) same ∙ l)
