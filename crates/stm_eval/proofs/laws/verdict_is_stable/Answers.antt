use Rattle.stm_eval.proofs.FragmentsAndStores.{holds_again}
use Rattle.stm_eval.proofs.laws.verdict_is_stable.Goals as goal

pub returns : goal.returns
returns c = holds_again
