use Rattle.stm_run.proofs.EventsOfConsole.{variables_fit}
use Rattle.stm_run.proofs.fitting_laws.variables_fit_lines.Goals as goal

pub returns : goal.returns
returns c = variables_fit c.answers_are_right.ensures.declarations
