use Rattle.stm_check.proofs.LaterNames.{later_names}
use Rattle.stm_check.proofs.laws.later_names_change_unknown.Goals as goal

pub returns : goal.returns
returns c = later_names
