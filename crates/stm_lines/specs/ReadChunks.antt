-- What a call of a reader brings.
use Rattle.std.specs.Prelude.{◌≡◌, ℕ, List, [], Option, Result, Ok, Err}
use Rattle.std.specs.Io.KnownBytes.{Consumes, IsAtEnd, Keeps}

-- these bytes were taken, none only at the end; after an error none was taken
abbrev pub ReadsChunk : {E : Type 0} → Result ℕ E → Option (List ℕ) → Option (List ℕ) → List ℕ → Type 0
ReadsChunk (Ok count) old new bytes = Consumes old new bytes × (count ≡ 0 → (bytes ≡ []) × IsAtEnd new)
ReadsChunk (Err e) old new bytes = Keeps old new × (bytes ≡ [])
