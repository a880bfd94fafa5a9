use Rattle.stm_desk.proofs.Turns.{stops_finish, why_finish, next_finish}
use Rattle.stm_desk.proofs.desk.Desk.finish_next.Goals as goal
use Rattle.stm_desk.proofs.desk.Desk.finish_next.Goals.{in-Ok, in-Err}

pub why_of_finish-requires : goal.why_of_finish-requires
why_of_finish-requires c = stops_finish c.args.self.now c.args.ticket c.in-Err.refusal c.requires.ready c.in-Err.ensures.refused

pub returns-clause-done : goal.returns-clause-done
returns-clause-done c =
    elim c.match-finish.branch [
      | in-Ok w ↦ rw w.result-is (next_finish c.args.self.now c.finish.new.self c.args.client c.args.ticket _ c.requires.ready w.in-Ok.ensures.accepted.grown w.in-Ok.ensures.accepted.plan w.in-Ok.ensures.refused)
      | in-Err w ↦ rw w.result-is tt
    ]

pub returns-clause-why : goal.returns-clause-why
returns-clause-why c =
    elim c.match-finish.branch [
      | in-Ok w ↦ rw w.result-is tt
      | in-Err w ↦ rw (w.result-is, w.why_of_finish.ensures) (why_finish c.args.self.now c.args.ticket w.in-Err.refusal c.requires.ready c.requires.few w.in-Err.ensures.refused)
    ]
