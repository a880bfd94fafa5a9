use Rattle.stm_desk_laws.proofs.VerdictRange.{verdicts_are_64_bit}
use Rattle.stm_desk_laws.proofs.laws.verdicts_are_in_range.Goals as goal

pub returns : goal.returns
returns c = verdicts_are_64_bit
