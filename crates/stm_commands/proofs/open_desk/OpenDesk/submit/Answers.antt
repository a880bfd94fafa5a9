use Rattle.stm_commands.proofs.DeskSteps.{submit_ok, submit_err}
use Rattle.stm_commands.proofs.Growing.{kept_submitted}
use Rattle.stm_commands.proofs.open_desk.OpenDesk.submit.Goals.{in-Ok, in-Err}
use Rattle.stm_commands.proofs.open_desk.OpenDesk.submit.Goals as goal

pub invariant_of-self : goal.invariant_of-self
invariant_of-self c = kept_submitted _ _ _ _ _ c.submit-answer.result c.submit-answer.ensures.accepted c.submit-answer.ensures.unchanged c.history-events.ensures.start c.history-events.ensures.legal c.self.invariant

pub returns : goal.returns
returns c = rw (← c.self.view_is) (elim c.match-answer.branch [
  | in-Ok w ↦ rw (w.result-is, w.out-is) (submit_ok _ _ _ _ _ _ _ w.write_ticket_line.result w.in-Ok.ensures.accepted w.in-Ok.ensures.ticket w.in-Ok.ensures.refused w.write_ticket_line.ensures)
  | in-Err w ↦ rw (w.result-is, w.out-is) (submit_err _ _ _ _ _ _ _ w.refuse_submit.result w.in-Err.ensures.unchanged w.in-Err.ensures.refused w.refuse_submit.ensures.memory w.refuse_submit.ensures.text)
])
