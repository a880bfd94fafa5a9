use Rattle.std.specs.Prelude.{option_map, string_bytes}
use Rattle.std.specs.Option.{option_copied}
use Rattle.serde_json.proofs.FreeTexts.{text_of_value}
use Rattle.stm_event_lines.specs.CheckpointLines.{waiting_line, given_data, parts_delivered}
use Rattle.stm_event_lines.proofs.Checkpoints.{waiting_exact}
use Rattle.stm_event_lines.proofs.checkpoint.waiting_line_text.Goals as goal

pub returns-in-Ok : goal.returns-in-Ok
unfolding waiting_line
returns-in-Ok c =
    let h = c.in-Ok.ensures.events in
    let l = c.args.line.now in
    text_of_value (given_data l) h.0 (string_bytes c.in-Ok.text) h.1 h.2 (waiting_exact l.ticket l.text.now (option_copied l.cause) l.label.now (option_map parts_delivered l.delivery))
