use Rattle.std.proofs.Common.{◌≡◌, ◌≤◌, []}
use Rattle.std.specs.Io.KnownBytes.{Keeps}
use Rattle.stm_lines.specs.CountedCalls.{CountsCalls}
use Rattle.stm_lines.proofs.line_reader.fill.Given as goal

abbrev pub invariant-reads : goal.invariant-reads
invariant-reads g l = record {
  kept : Keeps (g.R.Read.remaining l.initial.calls.reader.now) (g.R.Read.remaining l.calls.reader.now);
  fewer : l.calls.left ≤ l.initial.calls.left;
  none : l.chunk ≡ [];
  called : CountsCalls l.initial.calls l.calls;
}

abbrev pub decreases-reads : goal.decreases-reads
decreases-reads g l = l.calls.left
