use Rattle.stm_command_line.proofs.SaidNumbers.{numbers_are_taken, others_are_refused}
use Rattle.stm_command_line.proofs.laws.numbers_in_range_are_taken.Goals as goal

pub returns-clause-taken : goal.returns-clause-taken
returns-clause-taken c = numbers_are_taken

pub returns-clause-others : goal.returns-clause-others
returns-clause-others c = others_are_refused
