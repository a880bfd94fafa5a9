use Rattle.stm_queue.proofs.InvariantPreserved.{insert_rising}
use Rattle.stm_waiting.proofs.ticket_set.TicketSet.add_if.Goals as goal

pub invariant_of-self : goal.invariant_of-self
invariant_of-self c = rw c.put_in.ensures.items (insert_rising c.args.ticket c.self.inside.tickets.items c.self.invariant (rw (← c.self.view_is) at c.requires.absent))
