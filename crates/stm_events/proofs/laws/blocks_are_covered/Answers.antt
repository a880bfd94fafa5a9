use Rattle.stm_events.proofs.Covered.{blocks_are_covered}
use Rattle.stm_events.proofs.laws.blocks_are_covered.Goals as goal

pub returns : goal.returns
returns c = blocks_are_covered
