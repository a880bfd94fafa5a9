use Rattle.stm_eval.proofs.CatchLaws.{of_return}
use Rattle.stm_eval.proofs.laws.catch_of_return.Goals as goal

pub returns : goal.returns
returns c = of_return
