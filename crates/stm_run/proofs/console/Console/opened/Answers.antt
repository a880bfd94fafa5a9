use Rattle.std.proofs.Common.{rules, refl}
use Rattle.stm_run.proofs.console.Console.opened.Goals as goal

pub returns : goal.returns
returns c = (rw c.in-Open.is refl, record { writes_back = tt; value = search rules })
