use Rattle.stm_eval.proofs.FragmentsAndStores.{from_store}
use Rattle.stm_eval.proofs.laws.store_to_fragment.Goals as goal

pub returns : goal.returns
returns c = from_store
