use Rattle.stm_run_laws.proofs.FittingEvents.{events_fit}
use Rattle.stm_run_laws.proofs.laws.events_fit_lines.Goals as goal

pub returns : goal.returns
returns c =
    events_fit c.answers_are_right.ensures.declarations c.events_are_of_console.ensures c.numbers_are_small.ensures
    c.verdicts_fit_lines.ensures
