use Rattle.stm_events.proofs.KeptByLegalHistories.{variables_stay_covered}
use Rattle.stm_events.proofs.laws.covered_stay.Goals as goal

pub returns : goal.returns
returns c = variables_stay_covered
