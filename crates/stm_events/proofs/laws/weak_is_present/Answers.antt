use Rattle.stm_events.proofs.Headline.{weak_is_present}
use Rattle.stm_events.proofs.laws.weak_is_present.Goals as goal

pub returns : goal.returns
returns c = weak_is_present
