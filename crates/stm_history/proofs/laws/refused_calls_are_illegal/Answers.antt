use Rattle.stm_history.proofs.ExpectedEvents.{refused_are_illegal}
use Rattle.stm_history.proofs.laws.refused_calls_are_illegal.Goals as goal

pub returns : goal.returns
returns c = refused_are_illegal
