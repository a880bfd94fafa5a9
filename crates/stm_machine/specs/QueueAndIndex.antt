-- New, stale and current blocks, ticket by ticket: who is queued, and who watches which variable.
use Rattle.std.specs.Prelude.{◌≡◌, ℕ, Bool, false, not, ◌&&◌, List, [], ◌∷◌, Option, Some, None}
use Rattle.stm_terms.specs.declared.values.Value.{Value}
use Rattle.stm_terms.specs.ReadSet.{reads_of}
use Rattle.stm_check.specs.TypedBlock.{Block}
use Rattle.stm_watch.specs.Pairs.{is_read}
use Rattle.stm_queue.specs.Queue.{Entry, has_ticket, with_ticket}
use Rattle.stm_events.specs.SlowDesk.{Since, Waiter, Slow, under, is_current, find_waiter}

-- the tickets, each queued in its place
abbrev pub with_tickets : List ℕ → List Entry → List Entry
with_tickets [] es = es
with_tickets (t ∷ ts) es = with_tickets ts (with_ticket t es)

-- a block waits that is new or stale
abbrev pub due_of : Option Waiter → Bool
due_of None = false
due_of (Some w) = not (is_current w)

-- the tickets that are queued or out are those of the new and the stale blocks
abbrev pub ArePending : List Entry → List Waiter → Type 0
ArePending pending ws = (t : ℕ) → has_ticket t pending ≡ due_of (find_waiter t ws)

-- each ticket of a new or stale block is queued or out, and no other is
abbrev pub QueueIsRight : Slow → List Entry → Type 0
QueueIsRight s pending = ArePending pending s.waiters

-- what a block read at its last delivery
abbrev pub read_since : Block → Option Since → List (ℕ × Value)
read_since block None = []
read_since block (Some s) = reads_of (under s.store_then) block.tree

-- a block waits that is current and read the variable
abbrev pub watches_of : Option Waiter → ℕ → Bool
watches_of None v = false
watches_of (Some w) v = is_current w && is_read (read_since w.block w.since) v
