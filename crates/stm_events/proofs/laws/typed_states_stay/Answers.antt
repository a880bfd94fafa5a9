use Rattle.stm_events.proofs.TypedStores.{typed_states_stay}
use Rattle.stm_events.proofs.laws.typed_states_stay.Goals as goal

pub returns : goal.returns
returns c = typed_states_stay
