use Rattle.stm_eval.proofs.FragmentsAndStores.{to_store}
use Rattle.stm_eval.proofs.laws.fragment_to_store.Goals as goal

pub returns : goal.returns
returns c = to_store
