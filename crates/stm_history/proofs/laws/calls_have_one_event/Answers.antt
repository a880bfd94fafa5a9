use Rattle.stm_history.proofs.ExpectedEvents.{one_event_of_a_call}
use Rattle.stm_history.proofs.laws.calls_have_one_event.Goals as goal

pub returns : goal.returns
returns c = one_event_of_a_call
