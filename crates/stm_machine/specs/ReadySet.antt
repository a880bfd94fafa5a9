-- The tickets of the blocks that could finish now, as they are kept.
use Rattle.std.specs.Prelude.{◌≡◌, ℕ, ◌&&◌, Bool, not, List}
use Rattle.stm_queue.specs.Queue.{Entry, has_ticket}
use Rattle.stm_queue.specs.SortedTickets.{member}
use Rattle.stm_waiting.specs.declared.waiting.Waiting.{Waiting}
use Rattle.stm_waiting.specs.Entries.{kept_at}
use Rattle.stm_machine.specs.Entries.{kept_ends}

-- the last delivery to the block under the ticket brought a verdict that doesn't block, and the ticket is neither queued nor out
abbrev pub could_finish : ℕ → List (ℕ × Waiting) → List Entry → Bool
could_finish t es pending = kept_ends (kept_at t es) && not (has_ticket t pending)

-- these are the tickets of the blocks that could finish, and no others
abbrev pub AreReady : List ℕ → List (ℕ × Waiting) → List Entry → Type 0
AreReady ts es pending = (t : ℕ) → member t ts ≡ could_finish t es pending
