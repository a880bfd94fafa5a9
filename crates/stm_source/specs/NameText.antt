-- How the name of a variable is printed.
use Rattle.std.specs.Prelude.{ℕ, List, [], ◌∷◌, ◌++◌, Option, Some, None}

-- the name of a variable and a space, or nothing
abbrev pub name_text : Option (List ℕ) → List ℕ
name_text (Some name) = name ++ 32 ∷ []
name_text None = []
