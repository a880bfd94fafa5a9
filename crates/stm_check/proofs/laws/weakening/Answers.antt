use Rattle.stm_check.proofs.TypingLaws.{knowing_more_keeps_types}
use Rattle.stm_check.proofs.laws.weakening.Goals as goal

pub returns : goal.returns
returns c = knowing_more_keeps_types
