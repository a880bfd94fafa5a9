use Rattle.stm_history.proofs.OneReading.{texts_are_of_one_history}
use Rattle.stm_history.proofs.laws.texts_are_of_one_history.Goals as goal

pub returns : goal.returns
returns c = texts_are_of_one_history
