use Rattle.stm_eval.proofs.ReadSetIndependence.{independent}
use Rattle.stm_eval.proofs.laws.read_set_independence.Goals as goal

pub returns : goal.returns
returns c = independent
