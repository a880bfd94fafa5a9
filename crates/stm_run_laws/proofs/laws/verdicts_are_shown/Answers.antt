use Rattle.stm_run_laws.proofs.ShownVerdicts.{shown}
use Rattle.stm_run_laws.proofs.laws.verdicts_are_shown.Goals as goal

pub returns : goal.returns
returns c =
    shown c.answers_are_right.ensures.blocks c.answers_are_right.ensures.declarations c.check_never_says_no_memory.ensures
    c.verdict_is_stable.ensures c.checked_are_well_typed.ensures
