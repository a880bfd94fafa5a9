-- The variables of a first part are noted before those of the rest.
use Rattle.std.proofs.Common.{arith}
use Rattle.std.proofs.lemmas.Grind.{common_steps}
use Rattle.stm_check.proofs.RecordedUses.{record_uses_append}
use Rattle.stm_check.proofs.checker.Checker.+actions.Goals as goal

pub check_if-returns : goal.check_if-returns
check_if-returns t c = record { says = grind (arith, common_steps); uses = grind (arith, record_uses_append); low = grind (arith, common_steps) }

pub check_or_else-returns : goal.check_or_else-returns
check_or_else-returns t c = record { says = grind (arith, common_steps); uses = grind (arith, record_uses_append); low = grind (arith, common_steps) }

pub check_catch-returns : goal.check_catch-returns
check_catch-returns t c = record { says = grind (arith, common_steps); uses = grind (arith, record_uses_append); low = grind (arith, common_steps) }

pub check_bind-returns : goal.check_bind-returns
check_bind-returns t c = record { says = grind (arith, common_steps); uses = grind (arith, record_uses_append); low = grind (arith, common_steps) }

pub check_let-returns : goal.check_let-returns
check_let-returns t c = record { says = grind (arith, common_steps); uses = grind (arith, record_uses_append); low = grind (arith, common_steps) }

pub check_seq-returns : goal.check_seq-returns
check_seq-returns t c = record { says = grind (arith, common_steps); uses = grind (arith, record_uses_append); low = grind (arith, common_steps) }
