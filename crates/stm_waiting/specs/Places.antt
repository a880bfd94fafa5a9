-- The waiting blocks as they are kept: a place for each ticket, and in the slot at a place a block with its ticket, or none.
use Rattle.std.specs.Prelude.{◌≡◌, ℕ, zero, suc, ◌+◌, ◌*◌, ◌<◌, ◌≤◌, Bool, false, length, nat_eq, if◌then◌else◌, List, [], ◌∷◌, Option, Some, None, is_some, slice_get, option_map}
use Rattle.stm_terms.specs.declared.verdicts.Verdict.{Verdict}
use Rattle.stm_terms.specs.declared.verdicts.Verdict.TheVariants.{Blocks}
use Rattle.stm_waiting.specs.declared.waiting.Held.{Held}
use Rattle.stm_waiting.specs.declared.waiting.Waiting.{Waiting}
use Rattle.stm_waiting.specs.declared.places.Slot.{Slot}
use Rattle.stm_waiting.specs.declared.table.TicketPlace.{TicketPlace}
use Rattle.stm_waiting.specs.Entries.{kept}

-- what is kept there, if it is this ticket's
abbrev pub waiting_in : ℕ → Slot → Option Waiting
waiting_in t s = if nat_eq s.number t then s.waiting else None

-- what is kept there, if it is this ticket's, with what a delivery brought
abbrev pub with_owned : ℕ → Held → Slot → Option Waiting
with_owned t held s = if nat_eq s.number t then option_map (kept held) s.waiting else s.waiting

-- what is kept at a place that there may be, if it is this ticket's
abbrev pub waiting_found : ℕ → Option Slot → Option Waiting
waiting_found t None = None
waiting_found t (Some s) = waiting_in t s

-- what is kept for a ticket at a place, counted from 1
abbrev pub held_at : ℕ → ℕ → List Slot → Option Waiting
held_at t zero slots = None
held_at t (suc p) slots = waiting_found t (slice_get slots p)

-- the block under the ticket, if there is one, before others
abbrev pub listed : ℕ → Option Waiting → List (ℕ × Waiting) → List (ℕ × Waiting)
listed t None es = es
listed t (Some w) es = (t, w) ∷ es

-- the blocks of these tickets
abbrev pub entries_at : List TicketPlace → List Slot → List (ℕ × Waiting)
entries_at [] slots = []
entries_at (p ∷ ps) slots = listed p.ticket (held_at p.ticket p.place slots) (entries_at ps slots)

-- whether a block waits under the ticket
abbrev pub is_used : List Slot → TicketPlace → Bool
is_used slots p = is_some (held_at p.ticket p.place slots)

-- the first ticket
abbrev pub first_listed : List (ℕ × Waiting) → Option ℕ
first_listed [] = None
first_listed (e ∷ es) = Some e.0

-- whatever is found for other tickets is still found
abbrev pub OtherTicketsStay : ℕ → List Slot → List Slot → Type 0
OtherTicketsStay t slots new = (u p : ℕ) → nat_eq u t ≡ false → held_at u p new ≡ held_at u p slots

-- the place of the ticket, or 0
abbrev pub place_in : ℕ → List TicketPlace → ℕ
place_in t [] = 0
place_in t (p ∷ ps) = if nat_eq t p.ticket then p.place else place_in t ps

-- the i-th ticket, or 0
abbrev pub ticket_at : ℕ → List TicketPlace → ℕ
ticket_at i [] = 0
ticket_at zero (p ∷ ps) = p.ticket
ticket_at (suc i) (p ∷ ps) = ticket_at i ps

-- each ticket is above the one before it, and the first is at least n
abbrev pub AscendFrom : ℕ → List TicketPlace → Type 0
AscendFrom n [] = Unit {0}
AscendFrom n (p ∷ ps) = (n ≤ p.ticket) × AscendFrom (suc p.ticket) ps

-- the tickets are below n
abbrev pub PlacesAreBelow : ℕ → List TicketPlace → Type 0
PlacesAreBelow n [] = Unit {0}
PlacesAreBelow n (p ∷ ps) = (p.ticket < n) × PlacesAreBelow n ps

-- the tickets up to t are the first n
pub record IsCountUpTo (t : ℕ) (places : List TicketPlace) (n : ℕ) : Type 0 where
  pub within : n ≤ length places
  pub low : (i : ℕ) → i < n → ticket_at i places ≤ t
  pub high : (i : ℕ) → n ≤ i → i < length places → t < ticket_at i places

-- the tickets ascend; the count of blocks is right; the table lists at most 1,024 tickets beside twice as many as blocks wait; and
-- what is lent for `Blocks` is it
pub record AreInPlace (places : List TicketPlace) (slots : List Slot) (count : ℕ) (blocks : Verdict) : Type 0 where
  pub ascend : AscendFrom 0 places
  pub counted : count ≡ length (entries_at places slots)
  pub short : length places ≤ 2 * count + 1024
  pub lent : blocks ≡ Blocks
