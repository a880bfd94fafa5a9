-- The variables of a first part are noted before those of the rest.
use Rattle.std.proofs.Common.{arith}
use Rattle.std.proofs.lemmas.Grind.{common_steps}
use Rattle.stm_check.proofs.RecordedUses.{record_uses_append}
use Rattle.stm_check.proofs.checker.Checker.check_write.Goals as goal

pub returns : goal.returns
returns c = record { says = grind (arith, common_steps); uses = grind (arith, record_uses_append); low = grind (arith, common_steps) }
