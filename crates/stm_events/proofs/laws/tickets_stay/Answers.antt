use Rattle.stm_events.proofs.KeptByLegalHistories.{tickets_stay}
use Rattle.stm_events.proofs.laws.tickets_stay.Goals as goal

pub returns : goal.returns
returns c = tickets_stay
