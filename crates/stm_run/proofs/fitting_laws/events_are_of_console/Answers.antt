use Rattle.stm_run.proofs.EventsOfConsole.{events_are_of_console}
use Rattle.stm_run.proofs.fitting_laws.events_are_of_console.Goals as goal

pub returns : goal.returns
returns c = events_are_of_console
