use Rattle.stm_command_line.proofs.JournalWords.{journals_are_taken, empty_names_are_refused, modes_are_taken, other_modes_are_refused, modes_need_journals}
use Rattle.stm_command_line.proofs.laws.journals_are_taken.Goals as goal

pub returns-clause-taken : goal.returns-clause-taken
returns-clause-taken c = journals_are_taken

pub returns-clause-empty : goal.returns-clause-empty
returns-clause-empty c = empty_names_are_refused

pub returns-clause-modes : goal.returns-clause-modes
returns-clause-modes c = modes_are_taken

pub returns-clause-others : goal.returns-clause-others
returns-clause-others c = other_modes_are_refused

pub returns-clause-alone : goal.returns-clause-alone
returns-clause-alone c = modes_need_journals
