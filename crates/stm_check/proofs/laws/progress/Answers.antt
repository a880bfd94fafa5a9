use Rattle.stm_check.proofs.TypingLaws.{never_stuck}
use Rattle.stm_check.proofs.laws.progress.Goals as goal

pub returns : goal.returns
returns c = never_stuck
