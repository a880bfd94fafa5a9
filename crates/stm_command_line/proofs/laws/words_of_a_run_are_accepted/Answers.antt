use Rattle.stm_command_line.proofs.WordAnswers.{run_unanswered, dashes_unanswered, run_requested, dashes_requested, options_in_range}
use Rattle.stm_command_line.proofs.laws.words_of_a_run_are_accepted.Goals as goal

pub returns-clause-bare : goal.returns-clause-bare
returns-clause-bare c = run_unanswered

pub returns-clause-dashes : goal.returns-clause-dashes
returns-clause-dashes c = dashes_unanswered

pub returns-clause-defaults : goal.returns-clause-defaults
returns-clause-defaults c = λ words asks. (run_requested words asks, dashes_requested words asks)

pub returns-clause-range : goal.returns-clause-range
returns-clause-range c = options_in_range
