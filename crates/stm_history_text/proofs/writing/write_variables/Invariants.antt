use Rattle.std.proofs.Common.{take}
use Rattle.std.specs.Io.KnownBytes.{Appends}
use Rattle.stm_history_text.specs.HistoryText.{variable_lines}
use Rattle.stm_history_text.proofs.writing.write_variables.Given as goal

abbrev pub invariant-loop-id : goal.invariant-loop-id
invariant-loop-id g l = Appends (g.W.Write.contents l.initial.writer) (g.W.Write.contents l.writer) (variable_lines (take l.id l.table))
