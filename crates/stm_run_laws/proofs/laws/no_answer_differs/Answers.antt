use Rattle.stm_run_laws.proofs.UnseenCheckpoints.{unseen_by_commands}
use Rattle.stm_run_laws.proofs.laws.no_answer_differs.Goals as goal

pub returns : goal.returns
returns c =
    unseen_by_commands c.answers_are_right.ensures.blocks c.answers_are_right.ensures.declarations c.check_never_says_no_memory.ensures
    c.verdict_is_stable.ensures c.checked_are_well_typed.ensures
