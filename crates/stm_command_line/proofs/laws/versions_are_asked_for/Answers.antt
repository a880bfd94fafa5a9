use Rattle.stm_command_line.proofs.WordAnswers.{version_asked}
use Rattle.stm_command_line.proofs.laws.versions_are_asked_for.Goals as goal

pub returns : goal.returns
returns c = version_asked
