use Rattle.stm_commands.proofs.DeskSteps.{cancel_ok, cancel_err}
use Rattle.stm_commands.proofs.Growing.{kept_cancelled}
use Rattle.stm_commands.proofs.open_desk.OpenDesk.cancel.Goals.{in-Ok, in-Err}
use Rattle.stm_commands.proofs.open_desk.OpenDesk.cancel.Goals as goal

pub invariant_of-self : goal.invariant_of-self
invariant_of-self c = kept_cancelled _ _ _ _ _ c.cancel-answer.result c.cancel-answer.ensures.accepted c.cancel-answer.ensures.unchanged c.history-events.ensures.start c.history-events.ensures.legal c.self.invariant

pub returns : goal.returns
returns c = rw (← c.self.view_is) (elim c.match-answer.branch [
  | in-Ok w ↦ rw (w.result-is, w.out-is) (cancel_ok _ _ _ _ _ _ w.write_cancelled.result w.in-Ok.ensures.accepted w.in-Ok.ensures.refused w.write_cancelled.ensures)
  | in-Err w ↦ rw (w.result-is, w.out-is) (cancel_err _ _ _ _ _ _ _ w.refuse_cancel.result w.in-Err.ensures.unchanged w.in-Err.ensures.refused w.refuse_cancel.ensures.memory w.refuse_cancel.ensures.text)
])
