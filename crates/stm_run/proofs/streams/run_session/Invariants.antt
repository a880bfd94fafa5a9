use Rattle.std.proofs.Common.{◌≡◌, ◌+◌}
use Rattle.stm_lines.specs.TakenLines.{bytes_to_come}
use Rattle.stm_lines.specs.Unread.{unread}
use Rattle.stm_run.specs.Streaming.{HasAnswered, run_state}
use Rattle.stm_run.proofs.streams.run_session.Given as goal

abbrev pub invariant-lines : goal.invariant-lines
invariant-lines g l = record {
  answered : HasAnswered (run_state l.initial.session (g.R.Read.remaining l.initial.calls.reader.now) (g.W.Write.contents l.initial.writer))
      (run_state l.session (unread g.R.Read.remaining l.lines l.calls) (g.W.Write.contents l.writer));
  same_reader : l.calls.reader.ghost_name ≡ l.initial.calls.reader.ghost_name;
  same_steps : l.calls.steps.ghost_name ≡ l.initial.calls.steps.ghost_name;
  counted : l.calls.steps.now + l.calls.left ≡ l.initial.calls.steps.now + l.initial.calls.left;
}

abbrev pub decreases-lines : goal.decreases-lines
decreases-lines g l = bytes_to_come l.calls.left l.lines.chunk
