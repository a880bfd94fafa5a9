use Rattle.stm_events.proofs.Observed.{observations_decide}
use Rattle.stm_events.proofs.laws.observations_decide.Goals as goal

pub returns : goal.returns
returns c = observations_decide
