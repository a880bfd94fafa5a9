use Rattle.stm_eval.proofs.OrElseLaws.{left_unit, right_unit}
use Rattle.stm_eval.proofs.laws.retry_is_unit_of_or_else.Goals as goal

pub returns : goal.returns
returns c = record { left = left_unit; right = right_unit }
