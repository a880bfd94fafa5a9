use Rattle.stm_check.proofs.UsesApart.{uses_are_apart}
use Rattle.stm_check.proofs.laws.uses_are_distinct.Goals as goal

pub returns : goal.returns
returns c = uses_are_apart
