use Rattle.std.proofs.Common.{eqb-true}
use Rattle.stm_check.specs.Scopes.{scope}
use Rattle.stm_check.proofs.NameBits.{no_local}
use Rattle.stm_check.proofs.scope.lacks.Goals as goal

pub returns : goal.returns
returns c e = no_local c.bits.result c.bit_of.result c.args.name.now (scope c.args.locals.now) c.bit_of.ensures.bit c.bits.ensures (eqb-true _ 0 e)
