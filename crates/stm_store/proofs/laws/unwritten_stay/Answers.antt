use Rattle.stm_store.proofs.Lookups.{unwritten_stay}
use Rattle.stm_store.proofs.laws.unwritten_stay.Goals as goal

pub returns : goal.returns
returns c = unwritten_stay
