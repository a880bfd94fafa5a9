use Rattle.std.proofs.Common.{◌≡◌, ℕ, ◌≤◌, List}
use Rattle.std.specs.Io.KnownBytes.{prepend_known}
use Rattle.stm_lines.specs.CountedCalls.{CountsCalls}
use Rattle.stm_lines.specs.TakenLines.{bytes_to_come, TakesPartOfLine}
use Rattle.stm_lines.proofs.line_reader.LineReader.skip_line.Given as goal

abbrev pub invariant-parts : goal.invariant-parts
invariant-parts g l = record {
  begun : (bytes : List ℕ) × TakesPartOfLine (prepend_known l.initial.self.chunk (g.R.Read.remaining l.initial.calls.reader.now))
      (prepend_known l.self.chunk (g.R.Read.remaining l.calls.reader.now)) bytes;
  same_line : l.self.line.items ≡ l.initial.self.line.items;
  fewer : bytes_to_come l.calls.left l.self.chunk ≤ bytes_to_come l.initial.calls.left l.initial.self.chunk;
  called : CountsCalls l.initial.calls l.calls;
}

abbrev pub decreases-parts : goal.decreases-parts
decreases-parts g l = l.calls.left
