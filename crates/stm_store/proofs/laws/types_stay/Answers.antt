use Rattle.stm_store.proofs.ApplyPreservesTyping.{kinds_stay, covered_stay}
use Rattle.stm_store.proofs.laws.types_stay.Goals as goal

pub returns : goal.returns
returns c = record { types = kinds_stay; covered = covered_stay }
