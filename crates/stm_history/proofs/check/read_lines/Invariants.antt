use Rattle.std.proofs.Common.{◌≡◌, ◌≤◌, ◌+◌, ◌*◌, ℕ, List, [], length}
use Rattle.std.specs.Io.KnownBytes.{Consumes, prepend_known}
use Rattle.stm_lines.specs.TakenLines.{bytes_to_come}
use Rattle.stm_history.specs.Stages.{keeps, Reached}
use Rattle.stm_history.proofs.check.read_lines.Given as goal

abbrev pub invariant-lines : goal.invariant-lines
invariant-lines g l = record {
  reached : (taken : List ℕ) × Consumes (g.R.Read.remaining l.initial.calls.reader.now) (prepend_known l.lines.chunk (g.R.Read.remaining l.calls.reader.now)) taken
      × Reached l.checker.stage l.checker.whole [] taken × (bytes_to_come l.calls.left l.lines.chunk + length taken ≤ 4294967295 * 65536);
  none : l.checker.line.items ≡ [];
  keeps : keeps l.checker.stage ≡ keeps l.initial.checker.stage;
}

abbrev pub decreases-lines : goal.decreases-lines
decreases-lines g l = bytes_to_come l.calls.left l.lines.chunk
