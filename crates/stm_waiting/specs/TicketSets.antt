-- A set of tickets, as contracts see it.
use Rattle.std.specs.Prelude.{ℕ, Bool, List, [], ◌∷◌, if◌then◌else◌}
use Rattle.stm_queue.specs.SortedTickets.{insert_sorted, delete}

-- tickets, ascending, and how many can be added with no memory taken
pub record TicketsAndRoom : Type 0 where
  pub tickets : List ℕ
  pub room : ℕ

-- the tickets, with this one if it is wanted
abbrev pub with_if : Bool → ℕ → List ℕ → List ℕ
with_if wanted t ts = if wanted then insert_sorted t ts else ts

-- the tickets without these
abbrev pub without_all : List ℕ → List ℕ → List ℕ
without_all [] ts = ts
without_all (t ∷ gone) ts = without_all gone (delete t ts)
