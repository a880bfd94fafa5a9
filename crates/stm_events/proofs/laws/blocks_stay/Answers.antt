use Rattle.stm_events.proofs.KeptByLegalHistories.{blocks_stay}
use Rattle.stm_events.proofs.laws.blocks_stay.Goals as goal

pub returns : goal.returns
returns c = blocks_stay
