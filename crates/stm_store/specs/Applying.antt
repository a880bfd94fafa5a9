-- What applying a verdict to a store does, by its result.
use Rattle.std.specs.Prelude.{◌≡◌, ◌+◌, ◌<◌, ◌≤◌, List, Result, Ok, Err, length}
use Rattle.stm_terms.specs.declared.verdicts.Verdict.{Verdict}
use Rattle.stm_store.specs.declared.cell.Cell.{Cell}
use Rattle.stm_store.specs.declared.ready.Applied.{Applied}
use Rattle.stm_store.specs.declared.ready.ApplyError.{ApplyError}
use Rattle.stm_store.specs.declared.ready.ApplyError.TheVariants.{CellsFull, NoMemory}
use Rattle.stm_store.specs.Cells.{most_cells, applied, made_by, applied_answer}

-- there is room for the new variables of the verdict
abbrev pub HasRoomFor : List Cell → Verdict → Type 0
HasRoomFor cells verdict = length cells + length (made_by verdict) ≤ most_cells

-- the error is the one that comes: the store is full if there is no room, and memory ran out if there is
abbrev pub IsWhyNotApplied : List Cell → Verdict → ApplyError → Type 0
IsWhyNotApplied cells verdict CellsFull = most_cells < length cells + length (made_by verdict)
IsWhyNotApplied cells verdict NoMemory = HasRoomFor cells verdict

-- the verdict is applied, and what it did is reported; after an error the cells are as they were
abbrev pub AppliesVerdict : List Cell → Verdict → Result Applied ApplyError → List Cell → Type 0
AppliesVerdict old verdict (Ok answer) new =
    HasRoomFor old verdict × (new ≡ applied old verdict) × (answer ≡ applied_answer old verdict)
AppliesVerdict old verdict (Err e) new = IsWhyNotApplied old verdict e × (new ≡ old)

-- the cells that the verdict leaves are there, with what is to be reported of it; the store doesn't change
abbrev pub PreparesVerdict : List Cell → Verdict → Result (List Cell × Applied) ApplyError → Type 0
PreparesVerdict cells verdict (Ok ready) =
    HasRoomFor cells verdict × (ready ≡ (applied cells verdict, applied_answer cells verdict))
PreparesVerdict cells verdict (Err e) = IsWhyNotApplied cells verdict e
