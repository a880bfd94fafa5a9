use Rattle.stm_events.proofs.CurrentHoldsNow.{current_holds}
use Rattle.stm_events.proofs.laws.current_holds.Goals as goal

pub returns : goal.returns
returns c = current_holds
