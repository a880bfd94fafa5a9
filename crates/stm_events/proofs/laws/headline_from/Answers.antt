use Rattle.stm_events.proofs.HeadlineFrom.{headline_from}
use Rattle.stm_events.proofs.laws.headline_from.Goals as goal

pub returns : goal.returns
returns c = headline_from
