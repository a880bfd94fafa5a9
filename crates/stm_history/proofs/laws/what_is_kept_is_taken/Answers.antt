use Rattle.stm_history.proofs.KeptIsTaken.{what_is_kept_is_taken}
use Rattle.stm_history.proofs.laws.what_is_kept_is_taken.Goals as goal

pub returns : goal.returns
returns c = what_is_kept_is_taken
