use Rattle.stm_history.proofs.KeptIsTaken.{written_fits}
use Rattle.stm_history.proofs.laws.written_formats_fit.Goals as goal

pub returns : goal.returns
returns c = written_fits
