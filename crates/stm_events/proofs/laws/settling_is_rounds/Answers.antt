use Rattle.stm_events.proofs.Rounds.{settling_is_rounds}
use Rattle.stm_events.proofs.laws.settling_is_rounds.Goals as goal

pub returns : goal.returns
returns c = settling_is_rounds
