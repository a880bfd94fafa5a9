use Rattle.stm_run.proofs.EventsOfConsole.{consoles_grow}
use Rattle.stm_run.proofs.fitting_laws.consoles_grow.Goals as goal

pub returns : goal.returns
returns c = consoles_grow
