use Rattle.std.proofs.Common.{sym, subst}
use Rattle.stm_machine.specs.Machine.{Parts, IsAt}
use Rattle.stm_machine.proofs.Delivery.{has_left}
use Rattle.stm_machine.proofs.States.{requeued}
use Rattle.stm_machine.proofs.Ready.{ready_same}
use Rattle.stm_machine.proofs.machine.Machine.after_refusal.Goals as goal

pub returns-clause-kept : goal.returns-clause-kept
returns-clause-kept c = λ s h.
    let k = subst (λ (m : Parts). IsAt m s) (sym c.self.view_is) h in
    rw c.queue_overtaken.ensures (requeued _ s _ (λ u. has_left u c.args.ticket c.args.refusal c.self.inside.pending.entries) k)

pub invariant_of-self : goal.invariant_of-self
invariant_of-self c = rw c.queue_overtaken.ensures (ready_same _ _ c.self.inside.pending.entries _ (λ u. has_left u c.args.ticket c.args.refusal c.self.inside.pending.entries) c.self.invariant)
