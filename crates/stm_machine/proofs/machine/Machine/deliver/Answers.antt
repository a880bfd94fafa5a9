use Rattle.std.proofs.Common.{not, refl, sym, subst}
use Rattle.stm_eval.specs.EvaluatedFields.{message_ticket, message_block, message_reads, message_verdict}
use Rattle.stm_eval.proofs.FragmentsAndStores.{to_store}
use Rattle.stm_waiting.proofs.TicketMembers.{member_if}
use Rattle.stm_machine.specs.Machine.{Parts, IsAt}
use Rattle.stm_machine.proofs.Delivery.{moves_deliver, deliver_queued}
use Rattle.stm_machine.proofs.JobsHandedOut.{queued_wait}
use Rattle.stm_machine.proofs.Ready.{due_absent, ready_held}
use Rattle.stm_machine.proofs.machine.Machine.deliver.Goals as goal

pub hold-requires : goal.hold-requires
hold-requires c =
    let s = c.requires.0 in
    let k = subst (λ (m : Parts). IsAt m s) (sym c.self.view_is) c.requires.1 in
    let m = c.args.message in
    rw c.ticket-ticket.ensures (queued_wait _ s k (message_ticket m) (deliver_queued _ s m k c.requires.2))

pub returns-in-Ok-clause-moves : goal.returns-in-Ok-clause-moves
returns-in-Ok-clause-moves c = (
  λ z h.
      let s = c.requires.0 in
      let k = subst (λ (m : Parts). IsAt m s) (sym c.self.view_is) c.requires.1 in
      let l = subst (λ (m : Parts). IsAt m z) (sym c.self.view_is) h in
      let m = c.args.message in
      rw (c.hold.ensures, c.remove.ensures.gone, c.ticket-ticket.ensures, c.into_parts-reads.ensures.reads, c.in-Ok.ensures.verdicts.0)
      (moves_deliver _ s z _ m k c.requires.2 l (λ S a. to_store (message_block m).tree (message_reads m) (message_verdict m) S (record { defined = m.defined; all_read = m.all_read }) a) c.in-Ok.ensures.watch),
  rw (c.remove.ensures.gone, c.ticket-ticket.ensures, ← c.self.view_is) refl,
)

pub add_if-requires-clause-absent : goal.add_if-requires-clause-absent
add_if-requires-clause-absent c =
    let s = c.requires.0 in
    let k = subst (λ (m : Parts). IsAt m s) (sym c.self.view_is) c.requires.1 in
    let m = c.args.message in
    rw (c.take_memory.ensures.ready, c.ticket-ticket.ensures) (due_absent (message_ticket m) _ c.self.inside.waiting c.self.inside.pending.entries c.self.invariant (deliver_queued _ s m k c.requires.2))

pub invariant_of-self : goal.invariant_of-self
invariant_of-self c =
    let s = c.requires.0 in
    let k = subst (λ (m : Parts). IsAt m s) (sym c.self.view_is) c.requires.1 in
    let m = c.args.message in
    let q = deliver_queued _ s m k c.requires.2 in
    let more = member_if (not c.blocks-in-Ok.result) c.ticket-ticket.result c.take_memory.new.ready.tickets c.add_if.new.self.tickets c.add_if.ensures in
    rw (c.hold.ensures, c.remove.ensures.gone, c.ticket-ticket.ensures, c.into_parts-reads.ensures.reads, c.in-Ok.ensures.verdicts.0)
    (ready_held (message_ticket m) (record { reads = message_reads m; verdict = message_verdict m }) c.self.inside.ready.tickets _ c.self.inside.waiting c.self.inside.pending.entries
    (queued_wait _ s k (message_ticket m) q) c.self.invariant q
    (λ u. rw (c.blocks-in-Ok.ensures, c.in-Ok.ensures.verdicts.0, c.take_memory.ensures.ready, c.ticket-ticket.ensures) at (more u)))
