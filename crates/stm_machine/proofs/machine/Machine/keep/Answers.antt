use Rattle.std.proofs.Common.{◌∙◌, refl, sym, subst}
use Rattle.stm_waiting.proofs.TicketMembers.{member_if}
use Rattle.stm_machine.specs.Machine.{Parts, IsAt}
use Rattle.stm_machine.proofs.Keeping.{moves_keep}
use Rattle.stm_machine.proofs.JobsHandedOut.{kept_waits, queued_wait}
use Rattle.stm_machine.proofs.Ready.{due_absent, ready_held}
use Rattle.stm_machine.proofs.machine.Machine.keep.Goals as goal

pub returns-in-Ok-clause-done : goal.returns-in-Ok-clause-done
returns-in-Ok-clause-done c = λ z h.
    let s = c.requires.0 in
    let k = subst (λ (m : Parts). IsAt m s) (sym c.self.view_is) c.requires.1 in
    let l = subst (λ (m : Parts). IsAt m z) (sym c.self.view_is) h in
    rw (c.hold_reads.ensures, c.remove.ensures.gone, c.in-Ok.ensures.verdicts.0)
    (moves_keep _ s z _ c.args.ticket c.args.verdict c.args.scratch.now k c.requires.2 l c.in-Ok.ensures.watch)

pub hold_reads-requires-clause-waits : goal.hold_reads-requires-clause-waits
hold_reads-requires-clause-waits c =
    let s = c.requires.0 in
    let k = subst (λ (m : Parts). IsAt m s) (sym c.self.view_is) c.requires.1 in
    kept_waits _ s k c.args.ticket (rw c.requires.2.1.found refl)

pub add_if-requires-clause-absent : goal.add_if-requires-clause-absent
add_if-requires-clause-absent c =
    let s = c.requires.0 in
    let k = subst (λ (m : Parts). IsAt m s) (sym c.self.view_is) c.requires.1 in
    rw c.memory_to_keep-taken.ensures.ready (due_absent c.args.ticket _ c.self.inside.waiting c.self.inside.pending.entries c.self.invariant (k.stands.queue c.args.ticket ∙ c.requires.2.0))

pub invariant_of-self : goal.invariant_of-self
invariant_of-self c =
    let s = c.requires.0 in
    let k = subst (λ (m : Parts). IsAt m s) (sym c.self.view_is) c.requires.1 in
    let t = c.args.ticket in
    let q = k.stands.queue t ∙ c.requires.2.0 in
    let more = member_if _ _ _ _ c.add_if.ensures in
    rw (c.hold_reads.ensures, c.remove.ensures.gone, c.in-Ok.ensures.verdicts.0)
    (ready_held t (record { reads = c.args.scratch.now; verdict = c.args.verdict }) c.self.inside.ready.tickets _ c.self.inside.waiting c.self.inside.pending.entries
    (queued_wait _ s k t q) c.self.invariant q
    (λ u. rw (← c.in-Ok.ensures.verdicts.0, ← c.memory_to_keep-taken.ensures.ready, ← c.blocks-in-Ok.ensures) (more u)))
