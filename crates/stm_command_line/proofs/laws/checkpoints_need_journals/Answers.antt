use Rattle.stm_command_line.proofs.SaidNumbers.{checkpoints_are_taken, other_checkpoints_are_refused, checkpoints_need_journals}
use Rattle.stm_command_line.proofs.laws.checkpoints_need_journals.Goals as goal

pub returns-clause-taken : goal.returns-clause-taken
returns-clause-taken c = checkpoints_are_taken

pub returns-clause-others : goal.returns-clause-others
returns-clause-others c = other_checkpoints_are_refused

pub returns-clause-alone : goal.returns-clause-alone
returns-clause-alone c = checkpoints_need_journals
