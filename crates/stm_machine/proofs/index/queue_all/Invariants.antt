use Rattle.std.proofs.Common.{◌≡◌, ℕ, ◌+◌, ◌≤◌, true, false, length, drop}
use Rattle.std.specs.Prelude.{nat_eq}
use Rattle.std.specs.List.{list_any}
use Rattle.stm_queue.specs.Queue.{has_ticket}
use Rattle.stm_queue.specs.SortedTickets.{IsRising}
use Rattle.stm_machine.specs.QueueAndIndex.{with_tickets}
use Rattle.stm_machine.proofs.index.queue_all.Given as goal

abbrev pub invariant-loop-ticket : goal.invariant-loop-ticket
invariant-loop-ticket l = record {
  all : with_tickets (drop l.ticket-index l.tickets) l.pending.entries ≡ with_tickets l.tickets l.fn.pending.entries;
  rising : IsRising (drop l.ticket-index l.tickets);
  absent : (u : ℕ) → list_any (nat_eq u) (drop l.ticket-index l.tickets) ≡ true → has_ticket u l.pending.entries ≡ false;
  room : length l.tickets ≤ l.pending.room + l.ticket-index;
}
