use Rattle.stm_journaled_run.proofs.NewEvents.{last_events_fit}
use Rattle.stm_journaled_run.proofs.laws.last_events_fit.Goals as goal

pub returns : goal.returns
returns c = last_events_fit c.checked_are_well_typed.ensures
