use Rattle.stm_lines.proofs.AsciiArguments.{high_byte_exact}
use Rattle.stm_lines.proofs.judging.has_high_byte.Goals as goal

pub returns : goal.returns
returns c = high_byte_exact c.args.line.now c.is_ascii.result c.is_ascii.ensures.cases
