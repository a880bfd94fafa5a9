use Rattle.std.proofs.Common.{◌≡◌, ◌<◌}
use Rattle.stm_lines.specs.TakenLines.{bytes_to_come}
use Rattle.stm_lines.specs.Unread.{unread}
use Rattle.stm_journaled_run.specs.DurableRun.{RefusalCause}
use Rattle.stm_journaled_run.specs.GoingOn.{HasComeTo, InputLeaves, run_at}
use Rattle.stm_journaled_run.proofs.streams.run_session.Given as goal

abbrev pub invariant-lines : goal.invariant-lines
invariant-lines g l = record {
  come : HasComeTo g.D.Device.disk l.fn.every l.initial.session.console (g.R.Read.remaining l.initial.calls.reader.now)
      (unread g.R.Read.remaining l.lines l.calls) (g.W.Write.contents l.initial.writer) (run_at l.file l.session (g.W.Write.contents l.writer));
  moment : InputLeaves g.D.Device.disk l.initial.file l.file l.fn.every l.initial.session.console (g.R.Read.remaining l.initial.calls.reader.now);
  because : 0 < l.session.tries_from → RefusalCause g.D.Device.disk;
  sync : l.file.journal.sync ≡ l.initial.file.journal.sync;
  same_reader : l.calls.reader.ghost_name ≡ l.initial.calls.reader.ghost_name;
  same_steps : l.calls.steps.ghost_name ≡ l.initial.calls.steps.ghost_name;
}

abbrev pub decreases-lines : goal.decreases-lines
decreases-lines g l = bytes_to_come l.calls.left l.lines.chunk
