use Rattle.stm_commands.proofs.DeskSteps.{finish_ok, finish_err}
use Rattle.stm_commands.proofs.Growing.{kept_finished}
use Rattle.stm_commands.proofs.open_desk.OpenDesk.finish.Goals.{in-Ok, in-Err}
use Rattle.stm_commands.proofs.open_desk.OpenDesk.finish.Goals as goal

pub invariant_of-self : goal.invariant_of-self
invariant_of-self c = kept_finished _ _ _ _ _ c.finish-answer.result c.finish-answer.ensures.accepted c.finish-answer.ensures.unchanged c.history-events.ensures.start c.history-events.ensures.legal c.self.invariant

pub returns : goal.returns
returns c = rw (← c.self.view_is) (elim c.match-answer.branch [
  | in-Ok w ↦ rw (w.result-is, w.out-is) (finish_ok _ _ _ _ w.in-Ok.finish _ _ w.write_finish.result w.in-Ok.ensures.accepted.grown w.in-Ok.ensures.accepted.plan w.in-Ok.ensures.refused w.write_finish.ensures)
  | in-Err w ↦ rw (w.result-is, w.out-is) (finish_err _ _ _ _ _ _ _ w.refuse_finish.result w.in-Err.ensures.unchanged w.in-Err.ensures.refused w.refuse_finish.ensures.memory w.refuse_finish.ensures.text)
])
