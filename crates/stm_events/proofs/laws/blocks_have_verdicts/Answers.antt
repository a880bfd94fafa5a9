use Rattle.stm_events.proofs.TypedStores.{blocks_have_verdicts}
use Rattle.stm_events.proofs.laws.blocks_have_verdicts.Goals as goal

pub returns : goal.returns
returns c = blocks_have_verdicts
