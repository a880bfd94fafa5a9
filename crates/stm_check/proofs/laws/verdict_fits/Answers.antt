use Rattle.stm_check.proofs.TypingLaws.{every_verdict_fits}
use Rattle.stm_check.proofs.laws.verdict_fits.Goals as goal

pub returns : goal.returns
returns c = every_verdict_fits
