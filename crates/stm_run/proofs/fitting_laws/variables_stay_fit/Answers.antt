use Rattle.stm_run.proofs.EventsOfConsole.{variables_stay_fit}
use Rattle.stm_run.proofs.fitting_laws.variables_stay_fit.Goals as goal

pub returns : goal.returns
returns c = variables_stay_fit c.answers_are_right.ensures.declarations
