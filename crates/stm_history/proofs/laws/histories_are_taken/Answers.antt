use Rattle.stm_history.proofs.FirstFault.{histories_are_taken}
use Rattle.stm_history.proofs.laws.histories_are_taken.Goals as goal

pub returns : goal.returns
returns c = histories_are_taken
