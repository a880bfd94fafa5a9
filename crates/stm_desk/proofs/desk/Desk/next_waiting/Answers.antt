use Rattle.std.proofs.Common.{◌≡◌, subst}
use Rattle.std.specs.Prelude.{nat_lt, option_map}
use Rattle.stm_events.specs.SlowSettle.{lowest}
use Rattle.stm_desk.specs.DeskView.{DeskView, state_of}
use Rattle.stm_desk.proofs.desk.Desk.next_waiting.Goals as goal

pub returns : goal.returns
returns c =
    let d : DeskView = record { table = c.self.inside.table; checkpoint = c.self.inside.checkpoint; limit = c.self.inside.limit; history = c.self.inside.history.items; pending = c.self.inside.machine.pending } in
    subst (λ (x : DeskView). c.next_waiting.result ≡ option_map (λ w. w.ticket) (lowest (λ w. nat_lt c.args.after w.ticket) (state_of x).waiters)) c.self.view_is
    (c.next_waiting.ensures (state_of d) c.self.invariant.0.at)
