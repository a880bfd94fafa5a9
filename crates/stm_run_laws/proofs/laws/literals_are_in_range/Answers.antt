use Rattle.stm_run_laws.proofs.LiteralsInRange.{literals_are_in_range}
use Rattle.stm_run_laws.proofs.laws.literals_are_in_range.Goals as goal

pub returns : goal.returns
returns c = literals_are_in_range c.answers_are_right.ensures.blocks
