use Rattle.std.proofs.Common.{◌≡◌, drop}
use Rattle.stm_waiting.specs.TicketSets.{without_all}
use Rattle.stm_waiting.proofs.ticket_set.TicketSet.remove_all.Given as goal

abbrev pub invariant-loop-ticket : goal.invariant-loop-ticket
invariant-loop-ticket l = without_all (drop l.ticket-index l.tickets) l.self.tickets ≡ without_all l.tickets l.fn.self.tickets
