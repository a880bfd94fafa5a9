use Rattle.stm_check.proofs.CheckExact.{accepts_the_well_typed}
use Rattle.stm_check.proofs.laws.check_is_exact.Goals as goal

pub returns : goal.returns
returns c = accepts_the_well_typed
