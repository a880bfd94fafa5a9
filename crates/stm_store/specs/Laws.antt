-- What applying a verdict keeps, and what a store opens with.
use Rattle.std.specs.Prelude.{◌≡◌, ◌≢◌, ◌↔◌, ℕ, ◌+◌, ◌<◌, ◌≤◌, nat_eq, true, false, List, Some, None, length, slice_get}
use Rattle.std.specs.List.{list_any}
use Rattle.stm_terms.specs.declared.kinds.Ty.{Ty}
use Rattle.stm_terms.specs.declared.verdicts.Verdict.{Verdict}
use Rattle.stm_store.specs.declared.cell.Cell.{Cell}
use Rattle.stm_terms.specs.Changes.{cell_value}
use Rattle.stm_store.specs.Cells.{most_cells, plains, kinds_of, StoreIsTyped, IsStore, Covers, Fits, IsApplied, applied, made_by, written_by, changed_by}
use Rattle.stm_store.specs.Tables.{Declared, declared_cells, opened}

-- a variable that exists stays, with its type
abbrev pub TypesStay : Type 0
TypesStay =
    (cells : List Cell) (verdict : Verdict) (i : ℕ) (t : Ty)
    → kinds_of (plains cells) i ≡ Some t → kinds_of (plains (applied cells verdict)) i ≡ Some t

-- so variables that are covered stay covered
abbrev pub CoveredStay : Type 0
CoveredStay =
    (cells : List Cell) (verdict : Verdict) (uses : List (ℕ × Ty))
    → Covers (plains cells) uses → Covers (plains (applied cells verdict)) uses

-- a variable that the verdict doesn't write keeps its cell
abbrev pub UnwrittenStay : Type 0
UnwrittenStay =
    (cells : List Cell) (verdict : Verdict) (i : ℕ) (c : Cell)
    → written_by verdict i ≡ None → slice_get cells i ≡ Some c → slice_get (applied cells verdict) i ≡ Some c

-- the variables that a verdict changes that fits are those whose value is another one afterwards
abbrev pub ChangedDiffer : Type 0
ChangedDiffer =
    (cells : List Cell) (verdict : Verdict) (i : ℕ) → Fits (plains cells) verdict → i < length cells
    → (list_any (nat_eq i) (changed_by cells verdict) ≡ true)
    ↔ (cell_value (plains (applied cells verdict)) i ≢ cell_value (plains cells) i)

-- and one that a verdict doesn't change keeps its cell, whether it is written or not
abbrev pub UnchangedStay : Type 0
UnchangedStay =
    (cells : List Cell) (verdict : Verdict) (i : ℕ) (c : Cell)
    → list_any (nat_eq i) (changed_by cells verdict) ≡ false → slice_get cells i ≡ Some c
    → slice_get (applied cells verdict) i ≡ Some c

-- a verdict that fits means the same variable by variable
abbrev pub FittingAreApplied : Type 0
FittingAreApplied =
    (cells : List Cell) (verdict : Verdict) → Fits (plains cells) verdict → IsApplied cells verdict (applied cells verdict)

-- it keeps a store well typed
abbrev pub FittingKeepTypes : Type 0
FittingKeepTypes =
    (cells : List Cell) (verdict : Verdict)
    → Fits (plains cells) verdict → StoreIsTyped (plains cells) → StoreIsTyped (plains (applied cells verdict))

-- and keeps all that holds of every store, if there is room for the new variables
abbrev pub FittingKeepStores : Type 0
FittingKeepStores =
    (cells : List Cell) (verdict : Verdict)
    → Fits (plains cells) verdict → IsStore (plains cells) → length cells + length (made_by verdict) ≤ most_cells
    → IsStore (plains (applied cells verdict))

-- a store opens with the variables of its table
abbrev pub OpenedAreDeclared : Type 0
OpenedAreDeclared = (table : List Declared) → plains (opened table) ≡ declared_cells table
