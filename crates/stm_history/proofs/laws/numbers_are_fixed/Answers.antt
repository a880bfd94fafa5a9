use Rattle.stm_history.proofs.OneReading.{numbers_are_fixed}
use Rattle.stm_history.proofs.laws.numbers_are_fixed.Goals as goal

pub returns : goal.returns
returns c = numbers_are_fixed
