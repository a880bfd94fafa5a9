-- A 0 after the end of a file, and bytes after it, before a sync.
use Rattle.std.specs.Prelude.{◌≡◌, ◌⊎◌, ◌≤◌, ℕ, List, ◌∷◌, ◌++◌, length}

-- The file is as it was, or it has the 0, and after it at most n bytes, whatever they are.
abbrev pub IsClosedAppend : ℕ → List ℕ → List ℕ → Type 0
IsClosedAppend n old new = (new ≡ old) ⊎ ((end : List ℕ) × (new ≡ old ++ 0 ∷ end) × (length end ≤ n))
