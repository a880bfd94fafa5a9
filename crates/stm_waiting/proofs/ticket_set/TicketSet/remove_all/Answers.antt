use Rattle.std.proofs.Common.{◌≡◌, [], arith, sym, eqb-true}
use Rattle.std.specs.VecDeque.{deque_len}
use Rattle.stm_queue.proofs.InvariantPreserved.{nothing_in}
use Rattle.stm_waiting.proofs.TicketMembers.{none_left}
use Rattle.stm_waiting.proofs.ticket_set.TicketSet.remove_all.Goals as goal

pub returns-then-is_empty : goal.returns-then-is_empty
returns-then-is_empty c =
    let ts = c.self.inside.tickets in
    let none : ts.items ≡ [] = nothing_in ts.items (omega (arith, eqb-true (deque_len ts) 0 (sym c.if-is_empty.ensures), ts.ok.0)) in
    rw (← c.self.view_is, none) (none_left c.args.tickets.now)
