use Rattle.stm_lines.proofs.CommandLines.{next_whole, next_last, no_line}
use Rattle.stm_lines.proofs.command_lines.has_next_line.Goals as goal

pub returns-in-Ok-Whole-clause-line : goal.returns-in-Ok-Whole-clause-line
returns-in-Ok-Whole-clause-line g c = let h = rw c.in-Ok-Whole.field-0-is at c.in-Ok-Whole.ensures.read in next_whole _ _ _ h.0 h.1 h.2

pub returns-in-Ok-Last-clause-line : goal.returns-in-Ok-Last-clause-line
returns-in-Ok-Last-clause-line g c = let h = rw c.in-Ok-Last.field-0-is at c.in-Ok-Last.ensures.read in next_last _ _ _ h.0 h.1 h.2 h.3

pub returns-in-Ok-End-clause-line : goal.returns-in-Ok-End-clause-line
returns-in-Ok-End-clause-line g c = no_line _ _ (rw c.in-Ok-End.field-0-is at c.in-Ok-End.ensures.read)
