use Rattle.stm_run.proofs.EventsOfConsole.{waiting_stay_of_text}
use Rattle.stm_run.proofs.fitting_laws.waiting_stay_of_text.Goals as goal

pub returns : goal.returns
returns c = waiting_stay_of_text
