-- The pairs of the index as they are kept: for each variable the number of a place, and at each place a variable with its tickets.
use Rattle.std.specs.Prelude.{◌≡◌, ℕ, zero, suc, Bool, false, nat_eq, if◌then◌else◌, List, [], ◌∷◌, ◌++◌, map, Option, Some, None, slice_get, slice_index_or, option_map}
use Rattle.stm_queue.specs.SortedTickets.{member}
use Rattle.stm_watch.specs.declared.table.Slot.{Slot}
use Rattle.stm_watch.specs.declared.table.Table.{Table}

-- the tickets that are kept there, if they are this variable's
abbrev pub watchers_in : ℕ → Slot → List ℕ
watchers_in v s = if nat_eq s.number v then s.watchers else []

-- the tickets of this variable in a slot that may be missing
abbrev pub watchers_found : ℕ → Option Slot → List ℕ
watchers_found v None = []
watchers_found v (Some s) = watchers_in v s

-- the tickets of a variable at a place, counted from 1
abbrev pub tickets_at : ℕ → ℕ → List Slot → List ℕ
tickets_at v zero slots = []
tickets_at v (suc p) slots = watchers_found v (slice_get slots p)

-- the number of the slot at a place
abbrev pub number_at : ℕ → List Slot → Option ℕ
number_at zero slots = None
number_at (suc p) slots = option_map (λ s. s.number) (slice_get slots p)

-- the pairs of the variables from n on, whose places are these
abbrev pub pairs_from : ℕ → List ℕ → List Slot → List (ℕ × ℕ)
pairs_from n [] slots = []
pairs_from n (p ∷ ps) slots = map (λ t. (n, t)) (tickets_at n p slots) ++ pairs_from (suc n) ps slots

-- all pairs
abbrev pub pairs_of : Table → List (ℕ × ℕ)
pairs_of t = pairs_from 0 t.places.items t.slots.items

-- the tickets of a variable
abbrev pub tickets_of : Table → ℕ → List ℕ
tickets_of table v = tickets_at v (slice_index_or table.places.items v 0) table.slots.items

-- the ticket is among those of the variable
abbrev pub holds : Table → ℕ → ℕ → Bool
holds table v t = member t (tickets_of table v)

-- whatever is found for other variables is still found
abbrev pub OtherVariablesStay : ℕ → List Slot → List Slot → Type 0
OtherVariablesStay v slots new = (w p : ℕ) → nat_eq w v ≡ false → tickets_at w p new ≡ tickets_at w p slots
