-- The queue of the desk as a set: the tickets of the blocks that wait for an evaluation, and which of them are out.
use Rattle.std.specs.Prelude.{◌≡◌, ℕ, false, not, ◌&&◌, ◌||◌, nat_eq, List, map, take}
use Rattle.std.specs.List.{filter}
use Rattle.stm_queue.specs.Queue.{Entry, tickets, with_ticket, without_ticket, is_out, marked, recalled, queued}
use Rattle.stm_queue.specs.SortedTickets.{IsRising, member}
use Rattle.stm_machine.specs.JobsHandedOut.{sent}
use Rattle.stm_machine.specs.QueueAndIndex.{with_tickets}
use Rattle.stm_events.specs.SlowDesk.{Waiter, is_current}

-- the tickets of the waiting blocks that are new or stale, in the order in which the blocks wait
abbrev pub due_tickets : List Waiter → List ℕ
due_tickets ws = map (λ w. w.ticket) (filter (λ w. not (is_current w)) ws)

-- the tickets that are out
abbrev pub tickets_out : List Entry → List ℕ
tickets_out es = map (λ e. e.0) (filter (λ e. e.1) es)

-- the queue for a set of tickets that are out: the tickets of the new and stale blocks, each out if it is in the set, and
-- queued if it isn't
abbrev pub queue_for : List ℕ → List Waiter → List Entry
queue_for out ws = map (λ t. (t, member t out)) (due_tickets ws)

-- what each change of the queue does to the set of tickets that are out
pub record OutTicketsAreASet : Type 0 where
  -- a submission or a finish puts none into it
  pub submitted : (t u : ℕ) (es : List Entry) → is_out u (with_ticket t es) ≡ is_out u es
  pub woken : (ts : List ℕ) (u : ℕ) (es : List Entry) → is_out u (with_tickets ts es) ≡ is_out u es
  -- a delivery or a cancellation takes its ticket out of it
  pub removed : (t u : ℕ) (es : List Entry) → is_out u (without_ticket t es) ≡ (not (nat_eq u t) && is_out u es)
  -- taking jobs puts the tickets of these into it
  pub taken : (n u : ℕ) (es : List Entry) → IsRising (tickets es) → is_out u (sent n es) ≡ (member u (take n (queued es)) || is_out u es)
  -- handing a ticket back takes it out, and settling empties it
  pub handed_back : (t u : ℕ) (es : List Entry) → is_out u (marked t false es) ≡ (not (nat_eq u t) && is_out u es)
  pub called_back : (u : ℕ) (es : List Entry) → is_out u (recalled es) ≡ false
