use Rattle.stm_events.proofs.Possible.{possible_states_stay}
use Rattle.stm_events.proofs.laws.possible_states_stay.Goals as goal

pub returns : goal.returns
returns c = possible_states_stay
