use Rattle.stm_events.specs.SlowSettle.{next_what}
use Rattle.stm_commands.specs.Endings.{settled_line}
use Rattle.stm_commands.proofs.DeskSteps.{run_ok, run_err}
use Rattle.stm_commands.proofs.Growing.{kept_run}
use Rattle.stm_commands.proofs.open_desk.OpenDesk.settle.Goals.{in-Ok, in-Err}
use Rattle.stm_commands.proofs.open_desk.OpenDesk.settle.Goals as goal

pub invariant_of-self : goal.invariant_of-self
invariant_of-self c = kept_run next_what _ _ _ _ c.settle-answer.result c.settle-answer.ensures.done c.history-events.ensures.start c.history-events.ensures.legal c.self.invariant

pub returns : goal.returns
returns c = rw (← c.self.view_is) (elim c.match-answer.branch [
  | in-Ok w ↦ rw (w.result-is, w.out-is) (run_ok next_what settled_line _ _ _ _ _ _ _ w.write_settled.result w.in-Ok.ensures.done w.write_settled.ensures)
  | in-Err w ↦ rw (w.result-is, w.out-is) (run_err next_what settled_line _ _ _ _ _ _ _ _ w.write_stop.result w.in-Err.ensures.done w.write_stop.ensures.text w.write_stop.ensures.memory)
])
