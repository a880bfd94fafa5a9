use Rattle.stm_events.proofs.Observed.{observed_answers}
use Rattle.stm_events.proofs.laws.observed_answer_alike.Goals as goal

pub returns : goal.returns
returns c = observed_answers
