use Rattle.std.proofs.Common.{take}
use Rattle.std.specs.Io.KnownBytes.{Appends}
use Rattle.stm_history_text.specs.HistoryText.{event_lines}
use Rattle.stm_history_text.proofs.writing.write_events.Given as goal

abbrev pub invariant-loop-event : goal.invariant-loop-event
invariant-loop-event g l = Appends (g.W.Write.contents l.initial.writer) (g.W.Write.contents l.writer) (event_lines (take l.event-index l.history))
