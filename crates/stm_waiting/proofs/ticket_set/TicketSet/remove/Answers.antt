use Rattle.std.proofs.Common.{◌∙◌, sym}
use Rattle.stm_queue.proofs.InvariantPreserved.{delete_rising}
use Rattle.stm_queue.proofs.SortedInsertion.{delete_absent}
use Rattle.stm_waiting.proofs.ticket_set.TicketSet.remove.Goals as goal

pub invariant_of-self : goal.invariant_of-self
invariant_of-self c = rw c.take_out.ensures.items (delete_rising c.args.ticket c.self.inside.tickets.items c.self.invariant)

pub returns-else-has_ticket_in : goal.returns-else-has_ticket_in
returns-else-has_ticket_in c =
    rw (← c.self.view_is) (sym (delete_absent c.args.ticket c.self.inside.tickets.items (sym c.has_ticket_in.ensures ∙ c.if-has_ticket_in.false)))
