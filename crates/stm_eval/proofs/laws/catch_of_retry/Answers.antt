use Rattle.stm_eval.proofs.CatchLaws.{of_retry}
use Rattle.stm_eval.proofs.laws.catch_of_retry.Goals as goal

pub returns : goal.returns
returns c = of_retry
