use Rattle.std.proofs.Common.{refl, arith}
use Rattle.stm_parse.specs.Bytes.{is_letter}
use Rattle.stm_parse.specs.declared.bytes.TheConstants.{CLASS}
use Rattle.stm_parse.proofs.ClassTable.{from_table}
use Rattle.stm_parse.proofs.bytes.is_letter.Goals as goal

pub returns : goal.returns
returns c = from_table CLASS 1 is_letter c.args.byte (omega arith) refl
