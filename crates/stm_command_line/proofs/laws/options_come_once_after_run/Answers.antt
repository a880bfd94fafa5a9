use Rattle.stm_command_line.proofs.SaidNumbers.{no_option_twice, options_need_run}
use Rattle.stm_command_line.proofs.laws.options_come_once_after_run.Goals as goal

pub returns-clause-once : goal.returns-clause-once
returns-clause-once c = no_option_twice

pub returns-clause-after : goal.returns-clause-after
returns-clause-after c = options_need_run
