use Rattle.stm_check.proofs.LaterNames.{checked_stay}
use Rattle.stm_check.proofs.laws.checked_stay.Goals as goal

pub returns : goal.returns
returns c = checked_stay
