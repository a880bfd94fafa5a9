use Rattle.std.proofs.Common.{◌≡◌, sym, ap, subst, arith}
use Rattle.stm_machine.specs.Machine.{Parts, IsAt}
use Rattle.stm_machine.proofs.Calls.{below_next, ticket_small, next_absent}
use Rattle.stm_machine.proofs.RunAtOnce.{moves_current, ready_current}
use Rattle.stm_machine.proofs.machine.Machine.submit_current.Goals as goal

pub insert_current-requires : goal.insert_current-requires
insert_current-requires c =
    let s = c.requires.0 in
    let k = subst (λ (m : Parts). IsAt m s) (sym c.self.view_is) c.requires.1 in
    below_next _ s k

pub overflow_add-self : goal.overflow_add-self
overflow_add-self c =
    let s = c.requires.0 in
    let k = subst (λ (m : Parts). IsAt m s) (sym c.self.view_is) c.requires.1 in
    omega (arith, ticket_small _ s k c.requires.2.ticket)

pub returns-in-Ok-clause-done : goal.returns-in-Ok-clause-done
returns-in-Ok-clause-done c = λ z h.
    let s = c.requires.0 in
    let k = subst (λ (m : Parts). IsAt m s) (sym c.self.view_is) c.requires.1 in
    let l = subst (λ (m : Parts). IsAt m z) (sym c.self.view_is) h in
    let e : c.self.inside.next ≡ c.args.self.now.next = ap (λ (m : Parts). m.next) c.self.view_is in
    rw (← e, c.in-Ok.ensures.inserted) (moves_current _ s z _ c.args.block c.args.verdict c.args.scratch.now k c.requires.2.may c.requires.2.verdict_of l c.in-Ok.ensures.watched)

pub invariant_of-self : goal.invariant_of-self
invariant_of-self c =
    let s = c.requires.0 in
    let k = subst (λ (m : Parts). IsAt m s) (sym c.self.view_is) c.requires.1 in
    rw c.in-Ok.ensures.inserted (ready_current c.self.inside.next c.args.block _ c.self.inside.ready.tickets c.self.inside.waiting c.self.inside.pending.entries (below_next _ s k) (next_absent _ s k) c.requires.2.blocks c.self.invariant)
