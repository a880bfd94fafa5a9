use Rattle.stm_command_line.proofs.StormWords.{storms_are_accepted, storms_are_as_runs, storms_have_no_journal}
use Rattle.stm_command_line.proofs.laws.words_of_a_storm_are_those_of_a_run.Goals as goal

pub returns-clause-bare : goal.returns-clause-bare
returns-clause-bare c = storms_are_accepted

pub returns-clause-as_runs : goal.returns-clause-as_runs
returns-clause-as_runs c = storms_are_as_runs

pub returns-clause-no_journal : goal.returns-clause-no_journal
returns-clause-no_journal c = storms_have_no_journal
