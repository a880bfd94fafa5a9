use Rattle.std.proofs.Common.{sym, subst, arith}
use Rattle.stm_waiting.proofs.TicketMembers.{member_rest}
use Rattle.stm_machine.specs.Machine.{Parts, IsAt}
use Rattle.stm_machine.proofs.Calls.{ticket_small}
use Rattle.stm_machine.proofs.RunAtOnce.{run_absent, run_rising, run_fits, moves_run, ready_run}
use Rattle.stm_machine.proofs.machine.Machine.run.Goals as goal

pub take_effect-requires : goal.take_effect-requires
take_effect-requires c =
    let s = c.requires.0 in
    let k = subst (λ (m : Parts). IsAt m s) (sym c.self.view_is) c.requires.1 in
    run_fits _ s k _ _ _ c.requires.3

pub queue_all-requires-clause-rising : goal.queue_all-requires-clause-rising
queue_all-requires-clause-rising c =
    let s = c.requires.0 in
    let k = subst (λ (m : Parts). IsAt m s) (sym c.self.view_is) c.requires.1 in
    rw c.as_slice-stale.ensures (run_rising _ s k _ _ _ c.requires.3)

pub queue_all-requires-clause-absent : goal.queue_all-requires-clause-absent
queue_all-requires-clause-absent c =
    let s = c.requires.0 in
    let k = subst (λ (m : Parts). IsAt m s) (sym c.self.view_is) c.requires.1 in
    rw (c.as_slice-stale.ensures, c.take_effect.ensures.entries) (run_absent _ s k _ _ _ c.requires.3)

pub overflow_add-self : goal.overflow_add-self
overflow_add-self c =
    let s = c.requires.0 in
    let k = subst (λ (m : Parts). IsAt m s) (sym c.self.view_is) c.requires.1 in
    omega (arith, ticket_small _ s k c.requires.2)

pub returns-in-Ok-clause-done : goal.returns-in-Ok-clause-done
returns-in-Ok-clause-done c = λ z block h e is.
    let s = c.requires.0 in
    let k = subst (λ (m : Parts). IsAt m s) (sym c.self.view_is) c.requires.1 in
    let l = subst (λ (m : Parts). IsAt m z) (sym c.self.view_is) h in
    rw (c.queue_all.ensures, c.as_slice-stale.ensures, c.take_effect.ensures.entries)
    (moves_run _ s z _ _ block _ _ _ k c.requires.3 l e is c.in-Ok.ensures.store (rw (← c.as_slice-stale.ensures) c.unwatch_all.ensures))

pub invariant_of-self : goal.invariant_of-self
invariant_of-self c =
    rw (c.queue_all.ensures, c.take_effect.ensures.entries)
    (ready_run _ _ c.remove_all.new.self.tickets c.self.inside.waiting c.self.inside.pending.entries c.self.invariant (member_rest c.as_slice-stale.result.now _ _ c.remove_all.ensures))
