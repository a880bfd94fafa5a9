use Rattle.stm_run_laws.proofs.FittingStarts.{starts_fit_lines}
use Rattle.stm_run_laws.proofs.laws.starts_fit_lines.Goals as goal

pub returns : goal.returns
returns c =
    starts_fit_lines c.answers_are_right.ensures.blocks c.answers_are_right.ensures.declarations c.check_never_says_no_memory.ensures
    c.verdict_is_stable.ensures c.checked_are_well_typed.ensures c.histories_stay_in_range.ensures c.verdicts_are_in_range.ensures
