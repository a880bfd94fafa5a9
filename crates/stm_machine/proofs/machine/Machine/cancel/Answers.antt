use Rattle.std.proofs.Common.{sym, subst}
use Rattle.stm_waiting.proofs.TicketMembers.{member_left}
use Rattle.stm_machine.specs.Machine.{Parts, IsAt}
use Rattle.stm_machine.proofs.Calls.{moves_cancel}
use Rattle.stm_machine.proofs.Ready.{ready_left, lost_none}
use Rattle.stm_machine.proofs.machine.Machine.cancel.Goals as goal

pub returns-clause-done : goal.returns-clause-done
returns-clause-done c = λ z h.
    let s = c.requires.0 in
    let k = subst (λ (m : Parts). IsAt m s) (sym c.self.view_is) c.requires.1 in
    let l = subst (λ (m : Parts). IsAt m z) (sym c.self.view_is) h in
    rw (c.forget.ensures.gone, c.remove-2.ensures.gone) (moves_cancel _ s z _ c.args.ticket k c.requires.2 l c.forget.ensures.unwatched)

pub invariant_of-self : goal.invariant_of-self
invariant_of-self c =
    let s = c.requires.0 in
    let k = subst (λ (m : Parts). IsAt m s) (sym c.self.view_is) c.requires.1 in
    rw (c.forget.ensures.gone, c.remove-2.ensures.gone)
    (ready_left c.args.ticket _ _ c.self.inside.waiting c.self.inside.pending.entries (lost_none _ s k c.args.ticket) c.self.invariant (member_left c.args.ticket _ _ c.remove.ensures))
