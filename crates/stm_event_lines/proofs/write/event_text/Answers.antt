use Rattle.std.specs.Prelude.{string_bytes}
use Rattle.serde_json.proofs.FreeTexts.{text_of_value}
use Rattle.stm_event_lines.specs.Lines.{event_line, event_data}
use Rattle.stm_event_lines.proofs.Exact.{event_exact}
use Rattle.stm_event_lines.proofs.write.event_text.Goals as goal

pub returns-in-Ok : goal.returns-in-Ok
unfolding event_line
returns-in-Ok c =
    let h = c.in-Ok.ensures.events in
    text_of_value (event_data c.args.event.now) h.0 (string_bytes c.in-Ok.text) h.1 h.2 (event_exact c.args.event.now)
