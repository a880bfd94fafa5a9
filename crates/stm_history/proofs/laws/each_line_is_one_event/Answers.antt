use Rattle.stm_history.proofs.Braces.{checkpoints_are_lines, checkpoints_begin_with_braces, lines_begin_with_braces}
use Rattle.stm_event_lines.proofs.ReadsBack.{event_same, event_one_line, header_one_line, variable_one_line}
use Rattle.stm_history.proofs.laws.each_line_is_one_event.Goals as goal

pub returns : goal.returns
returns c = record {
  one = event_same;
  lines = event_one_line;
  headers = λ h f. header_one_line h.format h.vars f.0 f.1;
  variables = variable_one_line;
  checkpoints = checkpoints_are_lines;
  braces = lines_begin_with_braces;
  checkpoint_braces = checkpoints_begin_with_braces;
}
