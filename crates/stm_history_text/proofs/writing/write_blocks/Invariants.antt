use Rattle.std.proofs.Common.{take}
use Rattle.std.specs.Io.KnownBytes.{Appends}
use Rattle.stm_history_text.specs.HistoryText.{block_lines}
use Rattle.stm_history_text.proofs.writing.write_blocks.Given as goal

abbrev pub invariant-loop-block : goal.invariant-loop-block
invariant-loop-block g l = Appends (g.W.Write.contents l.initial.writer) (g.W.Write.contents l.writer) (block_lines (take l.block-index l.blocks))
