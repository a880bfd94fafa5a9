use Rattle.stm_check.proofs.TypingLaws.{keeps_types}
use Rattle.stm_check.proofs.laws.preservation.Goals as goal

pub returns : goal.returns
returns c = keeps_types
