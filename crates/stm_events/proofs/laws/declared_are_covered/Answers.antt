use Rattle.stm_events.proofs.KeptByLegalHistories.{declared_are_covered}
use Rattle.stm_events.proofs.laws.declared_are_covered.Goals as goal

pub returns : goal.returns
returns c = declared_are_covered
