use Rattle.stm_console.proofs.StatusProofs.{done_run, done_file, done_storm, done_exploration, done_version, other_run, other_file, other_check, other_version, invalid_storm, invalid_exploration}
use Rattle.stm_console.proofs.laws.output_by_status.Goals as goal

pub returns-clause-run : goal.returns-clause-run
returns-clause-run c = done_run

pub returns-clause-storm : goal.returns-clause-storm
returns-clause-storm c = done_storm

pub returns-clause-exploration : goal.returns-clause-exploration
returns-clause-exploration c = done_exploration

pub returns-clause-version : goal.returns-clause-version
returns-clause-version c = done_version

pub returns-clause-run_part : goal.returns-clause-run_part
returns-clause-run_part c = other_run

pub returns-clause-check_part : goal.returns-clause-check_part
returns-clause-check_part c = other_check

pub returns-clause-version_part : goal.returns-clause-version_part
returns-clause-version_part c = other_version

pub returns-clause-run_on : goal.returns-clause-run_on
returns-clause-run_on c = done_file

pub returns-clause-run_on_part : goal.returns-clause-run_on_part
returns-clause-run_on_part c = other_file

pub returns-clause-invalid_storm : goal.returns-clause-invalid_storm
returns-clause-invalid_storm c = invalid_storm

pub returns-clause-invalid_exploration : goal.returns-clause-invalid_exploration
returns-clause-invalid_exploration c = invalid_exploration
