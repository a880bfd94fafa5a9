-- Writes to a stretch of a store's cells.
use Rattle.std.specs.Prelude.{⊤, ℕ, ◌+◌, ◌-◌, ◌<◌, ◌≤◌, List, [], ◌∷◌, slice_get}
use Rattle.stm_terms.specs.declared.values.Value.{Value}
use Rattle.stm_store.specs.declared.cell.Cell.{Cell}
use Rattle.stm_store.specs.Cells.{with_write}
use Rattle.stm_store.specs.FreshReferences.{HasNumber}

-- the cells from number i on, with each of these written, in a store that had n cells
abbrev pub with_writes_from : ℕ → ℕ → List (ℕ × Value) → List Cell → List Cell
with_writes_from n i [] cells = cells
with_writes_from n i (w ∷ ws) cells = with_writes_from n i ws (with_write n cells (w.0 - i) w.1 (slice_get cells (w.0 - i)))

-- these writes ascend, name cells from i on and before j, and their values can be renumbered
abbrev pub AreWithin : ℕ → ℕ → ℕ → List (ℕ × Value) → Type 0
AreWithin n i j [] = ⊤
AreWithin n i j (w ∷ ws) = (i ≤ w.0) × (w.0 < j) × HasNumber n w.1 × AreWithin n (w.0 + 1) j ws

-- there is a first write, and it is to a cell before j
abbrev pub StartsBelow : ℕ → List (ℕ × Value) → Type 0
StartsBelow j [] = ⊥
StartsBelow j (w ∷ ws) = w.0 < j
