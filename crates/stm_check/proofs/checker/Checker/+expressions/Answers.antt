-- The variables of a left operand are noted before those of the right one.
use Rattle.std.proofs.Common.{arith}
use Rattle.std.proofs.lemmas.Grind.{common_steps}
use Rattle.stm_check.proofs.RecordedUses.{record_uses_append}
use Rattle.stm_check.proofs.checker.Checker.+expressions.Goals as goal

pub check_operator-returns : goal.check_operator-returns
check_operator-returns t c = record { says = grind (arith, common_steps); uses = grind (arith, record_uses_append); low = grind (arith, common_steps) }
