use Rattle.std.proofs.Common.{◌≡◌, ◌∙◌, subst}
use Rattle.stm_events.specs.SlowDesk.{serial, serial_steps_from}
use Rattle.stm_events.proofs.Serial.{serial_from}
use Rattle.stm_desk.specs.DeskView.{DeskView, start_state, state_of}
use Rattle.stm_desk.proofs.desk.Desk.store.Goals as goal

pub returns-clause-serial : goal.returns-clause-serial
returns-clause-serial c =
    let d : DeskView = record { table = c.self.inside.table; checkpoint = c.self.inside.checkpoint; limit = c.self.inside.limit; history = c.self.inside.history.items; pending = c.self.inside.machine.pending } in
    let k = c.self.invariant.0 in
    subst (λ (x : DeskView). c.store.result.now ≡ serial (start_state x).store (serial_steps_from (start_state x) x.history)) c.self.view_is
    (c.store.ensures.store (state_of d) k.at ∙ serial_from (start_state d) d.history k.legal.each)
