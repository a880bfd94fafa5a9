use Rattle.stm_commands.proofs.DeskSteps.{declare_ok, declare_err}
use Rattle.stm_commands.proofs.Growing.{kept_declared}
use Rattle.stm_commands.proofs.open_desk.OpenDesk.declare.Goals.{in-Ok, in-Err}
use Rattle.stm_commands.proofs.open_desk.OpenDesk.declare.Goals as goal

pub invariant_of-self : goal.invariant_of-self
invariant_of-self c =
    kept_declared _ _ _ _ _ _ _ c.declare-answer.result c.declare-answer.ensures.accepted c.declare-answer.ensures.unchanged c.history-events.ensures.start c.history-events.ensures.legal c.self.invariant

pub returns : goal.returns
returns c = rw (← c.self.view_is, ← c.as_str-name.ensures.value) (elim c.match-answer.branch [
  | in-Ok w ↦ rw (w.result-is, w.out-is) (declare_ok _ _ _ (record { name = c.as_str-name.result.now; kind = c.args.variable.now.kind; value = c.args.variable.now.value }) _ _ _ w.write_declared_line.result w.in-Ok.ensures.accepted w.in-Ok.ensures.number w.in-Ok.ensures.refused w.write_declared_line.ensures)
  | in-Err w ↦ rw (w.result-is, w.out-is) (declare_err _ _ _ (record { name = c.as_str-name.result.now; kind = c.args.variable.now.kind; value = c.args.variable.now.value }) _ _ _ w.refuse_late_declaration.result w.in-Err.ensures.unchanged w.in-Err.ensures.refused w.refuse_late_declaration.ensures.memory w.refuse_late_declaration.ensures.text)
])
