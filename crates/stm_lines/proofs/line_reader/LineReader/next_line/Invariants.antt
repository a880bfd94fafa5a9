use Rattle.std.proofs.Common.{◌≡◌, ◌+◌, ◌≤◌, length}
use Rattle.std.specs.Io.KnownBytes.{prepend_known}
use Rattle.stm_lines.specs.CountedCalls.{CountsCalls}
use Rattle.stm_lines.specs.TakenLines.{bytes_to_come, TakesPartOfLine, HasLineFeed}
use Rattle.stm_lines.proofs.line_reader.LineReader.next_line.Given as goal

abbrev pub invariant-parts : goal.invariant-parts
invariant-parts g l = record {
  begun : TakesPartOfLine (prepend_known l.initial.self.chunk (g.R.Read.remaining l.initial.calls.reader.now))
      (prepend_known l.self.chunk (g.R.Read.remaining l.calls.reader.now)) l.self.line.items;
  short : length l.self.line.items ≤ l.limit;
  fewer : bytes_to_come l.calls.left l.self.chunk + length l.self.line.items ≤ bytes_to_come l.initial.calls.left l.initial.self.chunk;
  buffered : HasLineFeed l.initial.self.chunk → HasLineFeed l.self.chunk × (l.calls.left ≡ l.initial.calls.left);
  called : CountsCalls l.initial.calls l.calls;
}

abbrev pub decreases-parts : goal.decreases-parts
decreases-parts g l = l.calls.left
