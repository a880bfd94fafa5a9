use Rattle.stm_check.specs.Scopes.{names_of, scope}
use Rattle.stm_check.proofs.NameBits.{bits_more}
use Rattle.stm_check.proofs.scope.bits_with.Goals as goal

pub returns : goal.returns
returns c = bits_more c.bits.result c.bit_of.result (names_of (scope c.args.locals.now)) c.args.name.now c.bit_of.ensures.bit c.bit_of.ensures.few c.bits.ensures
