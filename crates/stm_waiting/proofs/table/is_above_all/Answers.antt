use Rattle.std.proofs.Common.{arith}
use Rattle.std.proofs.lemmas.Bool.Decides.{nat_tests}
use Rattle.stm_waiting.proofs.Searched.{last_above}
use Rattle.stm_waiting.proofs.table.is_above_all.Goals as goal

pub returns-in-Some : goal.returns-in-Some
returns-in-Some c = λ below. last_above c.args.ticket c.args.places.now c.in-Some.last.now c.requires c.in-Some.ensures.value (grind (arith, nat_tests))
