use Rattle.std.proofs.Common.{subst}
use Rattle.stm_events.specs.States.{IsTypedState}
use Rattle.stm_desk.specs.DeskView.{DeskView, start_state, state_of}
use Rattle.stm_desk.proofs.Starts.{typed_history, typed_now}
use Rattle.stm_desk.proofs.desk.Desk.know_typed.Goals as goal

pub returns-clause-typed : goal.returns-clause-typed
returns-clause-typed c =
    let d : DeskView = record { table = c.self.inside.table; checkpoint = c.self.inside.checkpoint; limit = c.self.inside.limit; history = c.self.inside.history.items; pending = c.self.inside.machine.pending } in
    let typed : IsTypedState (state_of d) = typed_now (start_state d) d.history (typed_history _ _ _ _ _ c.self.invariant.0 c.len-variables.ensures.table.typed) in
    subst (λ (d : DeskView). IsTypedState (state_of d)) c.self.view_is typed
