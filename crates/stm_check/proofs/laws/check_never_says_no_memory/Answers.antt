use Rattle.stm_check.proofs.CheckTakesNoMemory.{faults_are_the_text}
use Rattle.stm_check.proofs.laws.check_never_says_no_memory.Goals as goal

pub returns : goal.returns
returns c = faults_are_the_text
