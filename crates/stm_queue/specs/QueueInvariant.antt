-- The queued tickets and those that are out, each kept in a list of its own, as one list.
use Rattle.std.specs.Prelude.{◌≡◌, ◌+◌, ◌≤◌, ℕ, true, false, ◌&&◌, List, [], ◌∷◌, map}
use Rattle.stm_queue.specs.Queue.{Entry, with_ticket}
use Rattle.stm_queue.specs.SortedTickets.{IsRising, member}

-- the tickets that are out
abbrev pub outs : List ℕ → List Entry
outs ts = map (λ t. (t, true)) ts

-- the tickets that are out, and each queued one in its place among them
abbrev pub merged : List ℕ → List ℕ → List Entry
merged [] out = outs out
merged (t ∷ ts) out = with_ticket t (merged ts out)

-- both lists ascend and share no ticket, and each has room for the tickets of both and those that may be added
pub record IsKept (queued out : List ℕ) (room queued_len out_len queued_capacity out_capacity : ℕ) : Type 0 where
  pub queued_rises : IsRising queued
  pub out_rises : IsRising out
  pub apart : (t : ℕ) → (member t queued && member t out) ≡ false
  pub queued_room : queued_len + out_len + room ≤ queued_capacity
  pub out_room : queued_len + out_len + room ≤ out_capacity
