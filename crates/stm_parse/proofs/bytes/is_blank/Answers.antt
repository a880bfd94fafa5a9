use Rattle.std.proofs.Common.{refl, arith}
use Rattle.stm_parse.specs.Bytes.{is_blank}
use Rattle.stm_parse.specs.declared.bytes.TheConstants.{CLASS}
use Rattle.stm_parse.proofs.ClassTable.{from_table}
use Rattle.stm_parse.proofs.bytes.is_blank.Goals as goal

pub returns : goal.returns
returns c = from_table CLASS 4 is_blank c.args.byte (omega arith) refl
