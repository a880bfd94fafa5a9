use Rattle.stm_events.proofs.TypedStores.{stores_are_typed}
use Rattle.stm_events.proofs.laws.stores_are_typed.Goals as goal

pub returns : goal.returns
returns c = stores_are_typed
