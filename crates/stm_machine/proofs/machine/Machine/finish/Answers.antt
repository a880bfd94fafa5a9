use Rattle.std.proofs.Common.{refl, sym, subst}
use Rattle.stm_waiting.proofs.TicketMembers.{member_left, member_rest}
use Rattle.stm_machine.specs.Machine.{Parts, IsAt}
use Rattle.stm_machine.proofs.Finishing.{plan_absent, plan_rising, plan_fits, moves_finish}
use Rattle.stm_machine.proofs.Ready.{ready_finished, lost_none}
use Rattle.stm_machine.proofs.machine.Machine.finish.Goals as goal

pub take_effect-requires : goal.take_effect-requires
take_effect-requires c =
    let s = c.requires.0 in
    let k = subst (λ (m : Parts). IsAt m s) (sym c.self.view_is) c.requires.1 in
    plan_fits _ s k _ _ _ _ c.requires.2

pub queue_all-requires-clause-rising : goal.queue_all-requires-clause-rising
queue_all-requires-clause-rising c =
    let s = c.requires.0 in
    let k = subst (λ (m : Parts). IsAt m s) (sym c.self.view_is) c.requires.1 in
    rw c.as_slice-stale.ensures (plan_rising _ s k _ _ _ _ c.requires.2)

pub queue_all-requires-clause-absent : goal.queue_all-requires-clause-absent
queue_all-requires-clause-absent c =
    let s = c.requires.0 in
    let k = subst (λ (m : Parts). IsAt m s) (sym c.self.view_is) c.requires.1 in
    rw (c.as_slice-stale.ensures, c.take_effect.ensures.entries) (plan_absent _ s k _ _ _ _ c.requires.2)

pub returns-in-Ok-clause-moves : goal.returns-in-Ok-clause-moves
returns-in-Ok-clause-moves c = (
  λ z h.
      let s = c.requires.0 in
      let k = subst (λ (m : Parts). IsAt m s) (sym c.self.view_is) c.requires.1 in
      let l = subst (λ (m : Parts). IsAt m z) (sym c.self.view_is) h in
      rw (c.forget.ensures.gone, c.queue_all.ensures, c.as_slice-stale.ensures, c.take_effect.ensures.entries)
      (moves_finish _ s z _ _ c.args.ticket _ _ _ k c.requires.2 l c.in-Ok.ensures.store
      (record { between = c.unwatch_all.new.watch; others = rw (← c.as_slice-stale.ensures) c.unwatch_all.ensures; itself = c.forget.ensures.unwatched })),
  rw (c.queue_all.ensures, c.as_slice-stale.ensures, c.take_effect.ensures.entries, ← c.self.view_is) refl,
)

pub invariant_of-self : goal.invariant_of-self
invariant_of-self c =
    let s = c.requires.0 in
    let k = subst (λ (m : Parts). IsAt m s) (sym c.self.view_is) c.requires.1 in
    rw (c.forget.ensures.gone, c.queue_all.ensures, c.take_effect.ensures.entries)
    (ready_finished c.args.ticket _ _ c.remove.new.self.tickets _ c.self.inside.waiting c.self.inside.pending.entries (lost_none _ s k c.args.ticket) c.self.invariant
    (member_left c.args.ticket _ _ c.remove.ensures) (member_rest c.as_slice-stale.result.now _ _ c.remove_all.ensures))
