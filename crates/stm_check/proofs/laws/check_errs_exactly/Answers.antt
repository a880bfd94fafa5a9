use Rattle.stm_check.proofs.CheckExact.{faults_the_ill_typed}
use Rattle.stm_check.proofs.laws.check_errs_exactly.Goals as goal

pub returns : goal.returns
returns c = faults_the_ill_typed
