use Rattle.std.proofs.Common.{sym, subst, arith}
use Rattle.stm_machine.specs.Machine.{Parts, IsAt}
use Rattle.stm_machine.proofs.Calls.{moves_submit, below_next, ticket_small, next_absent}
use Rattle.stm_machine.proofs.Ready.{ready_wait}
use Rattle.stm_machine.proofs.machine.Machine.submit.Goals as goal

pub insert-requires : goal.insert-requires
insert-requires c =
    let s = c.requires.0 in
    let k = subst (λ (m : Parts). IsAt m s) (sym c.self.view_is) c.requires.1 in
    below_next _ s k

pub overflow_add-self : goal.overflow_add-self
overflow_add-self c =
    let s = c.requires.0 in
    let k = subst (λ (m : Parts). IsAt m s) (sym c.self.view_is) c.requires.1 in
    omega (arith, ticket_small _ s k c.requires.2)

pub add-requires-clause-absent : goal.add-requires-clause-absent
add-requires-clause-absent c =
    let s = c.requires.0 in
    let k = subst (λ (m : Parts). IsAt m s) (sym c.self.view_is) c.requires.1 in
    rw c.in_ok-make_room.ensures.done (next_absent _ s k)

pub returns-clause-done : goal.returns-clause-done
returns-clause-done c = λ z h.
    let s = c.requires.0 in
    let k = subst (λ (m : Parts). IsAt m s) (sym c.self.view_is) c.requires.1 in
    let l = subst (λ (m : Parts). IsAt m z) (sym c.self.view_is) h in
    rw (c.in_ok-insert.ensures.done, c.add.ensures, c.in_ok-make_room.ensures.done) (moves_submit _ s z c.args.block k c.requires.3 l)

pub invariant_of-self-2 : goal.invariant_of-self-2
invariant_of-self-2 c =
    let s = c.requires.0 in
    let k = subst (λ (m : Parts). IsAt m s) (sym c.self.view_is) c.requires.1 in
    rw (c.in_ok-insert.ensures.done, c.add.ensures, c.in_ok-make_room.ensures.done)
    (ready_wait c.self.inside.next c.args.block _ c.self.inside.waiting c.self.inside.pending.entries (below_next _ s k) c.self.invariant)
