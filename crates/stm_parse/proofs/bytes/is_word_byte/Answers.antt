use Rattle.std.proofs.Common.{refl, arith}
use Rattle.stm_terms.specs.Names.{is_word_byte}
use Rattle.stm_parse.specs.declared.bytes.TheConstants.{CLASS}
use Rattle.stm_parse.proofs.ClassTable.{from_table}
use Rattle.stm_parse.proofs.bytes.is_word_byte.Goals as goal

pub returns : goal.returns
returns c = from_table CLASS 3 is_word_byte c.args.byte (omega arith) refl
