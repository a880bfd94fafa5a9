-- What a declaration does to the table.
use Rattle.std.specs.Prelude.{◌≡◌, ℕ, List, [], ◌∷◌, ◌++◌, Result, Ok, Err, length}
use Rattle.stm_store.specs.Tables.{Declared}
use Rattle.stm_source.specs.declared.refusal.Refusal.{Refusal}
use Rattle.stm_source.specs.OutOfMemory.{IsOutOfMemory}

-- a declaration puts the variable after the others and returns its number; a refusal leaves the table as it was
abbrev pub Declares : List Declared → Result ℕ Refusal → List Declared → Result Declared Refusal → Type 0
Declares old (Ok i) new answer = (d : Declared) × (answer ≡ Ok d) × (i ≡ length old) × (new ≡ old ++ d ∷ [])
Declares old (Err e) new answer = (new ≡ old) × (¬ IsOutOfMemory e → answer ≡ Err e)
