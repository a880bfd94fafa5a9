use Rattle.stm_parse.proofs.TypesBack.{types_are_read_alone, types_are_read_back}
use Rattle.stm_parse.proofs.laws.types_are_read_back.Goals as goal

pub returns-clause-alone : goal.returns-clause-alone
returns-clause-alone c = types_are_read_alone

pub returns-clause-declared : goal.returns-clause-declared
returns-clause-declared c = types_are_read_back
