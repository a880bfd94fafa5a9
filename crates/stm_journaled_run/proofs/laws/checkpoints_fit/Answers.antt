use Rattle.stm_journaled_run.proofs.NewEvents.{checkpoints_fit}
use Rattle.stm_journaled_run.proofs.laws.checkpoints_fit.Goals as goal

pub returns : goal.returns
returns c = checkpoints_fit
