use Rattle.stm_store.proofs.Lookups.{is_applied}
use Rattle.stm_store.proofs.laws.fitting_are_applied.Goals as goal

pub returns : goal.returns
returns c = is_applied
