use Rattle.std.proofs.Common.{false, sym, subst}
use Rattle.stm_machine.specs.Machine.{Parts, IsAt}
use Rattle.stm_queue.proofs.Membership.{has_marked}
use Rattle.stm_machine.proofs.States.{requeued}
use Rattle.stm_machine.proofs.Ready.{ready_same}
use Rattle.stm_machine.proofs.machine.Machine.hand_back.Goals as goal

pub returns-clause-kept : goal.returns-clause-kept
returns-clause-kept c = λ s h.
    let k = subst (λ (m : Parts). IsAt m s) (sym c.self.view_is) h in
    rw c.hand_back.ensures.queued (requeued _ s _ (λ u. has_marked u c.args.ticket false c.self.inside.pending.entries) k)

pub invariant_of-self : goal.invariant_of-self
invariant_of-self c = rw c.hand_back.ensures.queued (ready_same _ _ c.self.inside.pending.entries _ (λ u. has_marked u c.args.ticket false c.self.inside.pending.entries) c.self.invariant)
