use Rattle.stm_run.proofs.SmallNumbers.{numbers_are_small}
use Rattle.stm_run.proofs.fitting_laws.numbers_are_small.Goals as goal

pub returns : goal.returns
returns c =
    numbers_are_small c.answers_are_right.ensures.blocks c.answers_are_right.ensures.declarations c.check_never_says_no_memory.ensures
    c.verdict_is_stable.ensures c.checked_are_well_typed.ensures
