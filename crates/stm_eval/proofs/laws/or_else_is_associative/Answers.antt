use Rattle.stm_eval.proofs.OrElseLaws.{associative}
use Rattle.stm_eval.proofs.laws.or_else_is_associative.Goals as goal

pub returns : goal.returns
returns c = associative
