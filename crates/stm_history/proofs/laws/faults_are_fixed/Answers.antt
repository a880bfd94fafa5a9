use Rattle.stm_history.proofs.FirstFault.{faults_are_fixed}
use Rattle.stm_history.proofs.laws.faults_are_fixed.Goals as goal

pub returns : goal.returns
returns c = faults_are_fixed
