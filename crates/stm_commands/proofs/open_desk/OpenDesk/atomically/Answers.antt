use Rattle.stm_desk.specs.DeskView.{state_of}
use Rattle.stm_commands.proofs.DeskSteps.{ran_ok, ran_err}
use Rattle.stm_commands.proofs.Growing.{kept_ran, ran_grown_on}
use Rattle.stm_commands.proofs.open_desk.OpenDesk.atomically.Goals.{in-Ok, in-Err}
use Rattle.stm_commands.proofs.open_desk.OpenDesk.atomically.Goals as goal

pub write_ran-requires : goal.write_ran-requires
write_ran-requires c = ((state_of c.self.inside.desk).store, c.in-Ok.ensures.accepted.applied)

pub invariant_of-self : goal.invariant_of-self
invariant_of-self c =
    kept_ran c.self.inside.desk _ _ _ c.args.block c.atomically-answer.result (ran_grown_on c.self.inside.desk _ c.args.block c.atomically-answer.result c.atomically-answer.ensures.accepted) c.atomically-answer.ensures.unchanged c.history-events.ensures.start c.history-events.ensures.legal c.self.invariant

pub returns : goal.returns
returns c = rw (← c.self.view_is) (elim c.match-answer.branch [
  | in-Ok w ↦ rw (w.result-is, w.out-is) (ran_ok c.self.inside.desk _ _ c.args.block w.in-Ok.ran _ _ w.write_ran.result w.in-Ok.ensures.accepted.grown w.in-Ok.ensures.accepted.events w.in-Ok.ensures.accepted.allowed w.write_ran.ensures)
  | in-Err w ↦ rw (w.result-is, w.out-is) (ran_err c.self.inside.desk _ _ c.args.block _ _ _ w.refuse_atomically.result w.in-Err.ensures.unchanged w.in-Err.ensures.refused w.refuse_atomically.ensures.memory w.refuse_atomically.ensures.text)
])
