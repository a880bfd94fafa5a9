use Rattle.stm_commands.proofs.DeskSteps.{label_ok, label_err}
use Rattle.stm_commands.proofs.Growing.{kept_labelled}
use Rattle.stm_commands.proofs.open_desk.OpenDesk.label.Goals.{in-Ok, in-Err}
use Rattle.stm_commands.proofs.open_desk.OpenDesk.label.Goals as goal

pub invariant_of-self : goal.invariant_of-self
invariant_of-self c = kept_labelled _ _ _ _ _ _ c.label-answer.result c.label-answer.ensures.accepted c.label-answer.ensures.unchanged c.history-events.ensures.start c.history-events.ensures.legal c.self.invariant

pub returns : goal.returns
returns c = rw (← c.self.view_is) (elim c.match-answer.branch [
  | in-Ok w ↦ rw (w.result-is, w.out-is) (label_ok _ _ _ _ _ _ _ w.write_labelled.result w.in-Ok.ensures.accepted w.in-Ok.ensures.refused w.write_labelled.ensures)
  | in-Err w ↦ rw (w.result-is, w.out-is) (label_err _ _ _ _ _ _ _ _ w.refuse_label.result w.in-Err.ensures.unchanged w.in-Err.ensures.refused w.refuse_label.ensures.memory w.refuse_label.ensures.text)
])
