use Rattle.stm_eval.proofs.CatchLaws.{of_throw}
use Rattle.stm_eval.proofs.laws.catch_of_throw.Goals as goal

pub returns : goal.returns
returns c = of_throw
