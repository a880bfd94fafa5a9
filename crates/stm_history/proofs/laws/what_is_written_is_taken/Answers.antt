use Rattle.stm_history.proofs.WrittenIsTaken.{what_is_written_is_taken}
use Rattle.stm_history.proofs.laws.what_is_written_is_taken.Goals as goal

pub returns : goal.returns
returns c = what_is_written_is_taken
