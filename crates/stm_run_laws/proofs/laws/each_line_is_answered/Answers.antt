use Rattle.stm_run_laws.proofs.EachAnswer.{each_line}
use Rattle.stm_run_laws.proofs.laws.each_line_is_answered.Goals as goal

pub returns : goal.returns
returns c =
    each_line c.answers_are_right.ensures.blocks c.answers_are_right.ensures.declarations c.check_never_says_no_memory.ensures
    c.verdict_fits.ensures c.verdict_is_stable.ensures c.checked_are_well_typed.ensures
