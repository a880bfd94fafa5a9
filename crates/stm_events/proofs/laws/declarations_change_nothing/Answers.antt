use Rattle.stm_events.proofs.Declaring.{declarations_change_nothing}
use Rattle.stm_events.proofs.laws.declarations_change_nothing.Goals as goal

pub returns : goal.returns
returns c = declarations_change_nothing
