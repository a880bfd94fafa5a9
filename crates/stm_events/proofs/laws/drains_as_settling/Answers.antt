use Rattle.stm_events.proofs.Draining.{drains_as_settling}
use Rattle.stm_events.proofs.laws.drains_as_settling.Goals as goal

pub returns : goal.returns
returns c = drains_as_settling
