use Rattle.stm_events.specs.SlowDrain.{next_drain}
use Rattle.stm_commands.specs.Endings.{drained_line}
use Rattle.stm_commands.proofs.DeskSteps.{run_ok, run_err}
use Rattle.stm_commands.proofs.Growing.{kept_run}
use Rattle.stm_commands.proofs.open_desk.OpenDesk.drain.Goals.{in-Ok, in-Err}
use Rattle.stm_commands.proofs.open_desk.OpenDesk.drain.Goals as goal

pub invariant_of-self : goal.invariant_of-self
invariant_of-self c = kept_run next_drain _ _ _ _ c.drain-answer.result c.drain-answer.ensures.done c.history-events.ensures.start c.history-events.ensures.legal c.self.invariant

pub returns : goal.returns
returns c = rw (← c.self.view_is) (elim c.match-answer.branch [
  | in-Ok w ↦ rw (w.result-is, w.out-is) (run_ok next_drain drained_line _ _ _ _ _ _ _ w.write_drained.result w.in-Ok.ensures.done w.write_drained.ensures)
  | in-Err w ↦ rw (w.result-is, w.out-is) (run_err next_drain drained_line _ _ _ _ _ _ _ _ w.write_drain_stop.result w.in-Err.ensures.done w.write_drain_stop.ensures.text w.write_drain_stop.ensures.memory)
])
