use Rattle.stm_run_laws.proofs.ReadBack.{read_back}
use Rattle.stm_run_laws.proofs.laws.histories_are_read_back.Goals as goal

pub returns : goal.returns
returns c =
    read_back c.each_line_is_one_event.ensures.lines c.what_is_kept_is_taken.ensures c.written_formats_fit.ensures
    c.events_fit_lines.ensures c.starts_fit_lines.ensures c.answers_are_right.ensures.blocks c.answers_are_right.ensures.declarations
    c.check_never_says_no_memory.ensures c.verdict_is_stable.ensures c.checked_are_well_typed.ensures
