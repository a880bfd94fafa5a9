use Rattle.std.proofs.Common.{◌≡◌, Some, None, sym, ap, ◌∙◌}
use Rattle.serde_json.specs.View.{view}
use Rattle.stm_event_lines.specs.Lines.{event_line}
use Rattle.stm_event_lines.specs.Fields.{event_of}
use Rattle.stm_event_lines.proofs.read.event_in.Goals as goal

pub returns-in_default-clause-bad : goal.returns-in_default-clause-bad
returns-in_default-clause-bad c = λ _ e h l.
    let none : None ≡ event_of c.args.known.now (view c.args.json.now) = sym c.in_default.is ∙ c.in_ok-event.ensures.value in
    cc

pub returns-clause-bad : goal.returns-clause-bad
returns-clause-bad c = λ is e h l.
    let some : Some c.in-Some.event ≡ event_of c.args.known.now (view c.args.json.now) = sym c.in-Some.is ∙ c.in_ok-event.ensures.value in
    let same : c.in-Some.event ≡ e = cc in
    c.if_line.ensures.bad is (ap event_line same ∙ l)
