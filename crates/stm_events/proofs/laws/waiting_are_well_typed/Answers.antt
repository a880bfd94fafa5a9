use Rattle.stm_events.proofs.TypedStores.{waiting_are_well_typed}
use Rattle.stm_events.proofs.laws.waiting_are_well_typed.Goals as goal

pub returns : goal.returns
returns c = waiting_are_well_typed
