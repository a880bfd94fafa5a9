use Rattle.stm_events.proofs.Declaring.{names_stay}
use Rattle.stm_events.proofs.laws.names_stay.Goals as goal

pub returns : goal.returns
returns c = names_stay
