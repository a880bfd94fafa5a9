-- Which tickets are in the list, queued or out, after each change of it.
use Rattle.std.specs.Prelude.{◌≡◌, ℕ, Bool, true, not, ◌&&◌, ◌||◌, nat_eq, List, Option, Some, slice_get}
use Rattle.stm_queue.specs.Queue.{Entry, has_ticket, with_entry, without_ticket, marked, sent_out, recalled, queued}

-- an entry brings its ticket, and no other
abbrev pub AddedAreThere : Type 0
AddedAreThere = (u : ℕ) (e : Entry) (es : List Entry) → has_ticket u (with_entry e es) ≡ (nat_eq u e.0 || has_ticket u es)

-- a removal takes its ticket away, and no other
abbrev pub RemovedAreGone : Type 0
RemovedAreGone = (u t : ℕ) (es : List Entry) → has_ticket u (without_ticket t es) ≡ (not (nat_eq u t) && has_ticket u es)

-- a mark changes whether a ticket is out, and not which tickets are in the list
abbrev pub MarksKeepTickets : Type 0
MarksKeepTickets = (u t : ℕ) (out : Bool) (es : List Entry) → has_ticket u (marked t out es) ≡ has_ticket u es

-- a queued ticket that is taken changes whether it is out, and not which tickets are in the list
abbrev pub SendingKeepsTickets : Type 0
SendingKeepsTickets = (u : ℕ) (sent : Option ℕ) (es : List Entry) → has_ticket u (sent_out sent es) ≡ has_ticket u es

-- a recall of all tickets changes which are out, and not which are in the list
abbrev pub RecallKeepsTickets : Type 0
RecallKeepsTickets = (u : ℕ) (es : List Entry) → has_ticket u (recalled es) ≡ has_ticket u es

-- a queued ticket is in the list
abbrev pub QueuedAreThere : Type 0
QueuedAreThere = (t i : ℕ) (es : List Entry) → slice_get (queued es) i ≡ Some t → has_ticket t es ≡ true
