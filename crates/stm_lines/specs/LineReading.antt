-- What is left of an input whose lines are judged one after another.
use Rattle.std.specs.Prelude.{◌≡◌, ℕ, ◌<◌, Bool, true, false, List, [], ◌∷◌, Option, Some, None, ⊤, length, map, IfSome}
use Rattle.stm_lines.specs.LineClass.{LineClass, line_class}
use Rattle.stm_lines.specs.Lines.{drop_return, lines_from}
use Rattle.stm_lines.specs.TakenLines.{TakesLastLine, TakesWholeLine}
use Rattle.stm_lines.specs.declared.command_lines.CommandLine.{CommandLine}
use Rattle.stm_lines.specs.declared.command_lines.CommandLine.TheVariants.{Whole, Last, End}

-- the line that was read is judged as the one that was taken, which a line feed or the end of the input ended
abbrev pub IsCommandLine : CommandLine → Option (List ℕ) → Option (List ℕ) → List ℕ → Type 0
IsCommandLine Whole old new line =
    (bytes : List ℕ) × TakesWholeLine old new bytes × (line_class line ≡ line_class (drop_return bytes))
IsCommandLine Last old new line =
    (bytes : List ℕ) × TakesLastLine old new bytes × (0 < length bytes) × (line_class line ≡ line_class bytes)
IsCommandLine End old new line = TakesLastLine old new []

-- how the lines of what follows are judged, if the first of them has begun
unfoldable pub classes_from : List ℕ → List ℕ → List LineClass
classes_from begun rest = map line_class (lines_from begun rest)

-- the line came first in what was left, or one that is judged as it is
abbrev pub IsNextLine : Option (List ℕ) → Option (List ℕ) → List ℕ → Type 0
IsNextLine None new line = ⊤
IsNextLine (Some all) None line = ⊥
IsNextLine (Some all) (Some rest) line = classes_from [] all ≡ line_class line ∷ classes_from [] rest

-- no line was left
abbrev pub IsNoLine : Option (List ℕ) → Type 0
IsNoLine known = IfSome known (λ all. classes_from [] all ≡ [])

-- whether there is a next line, and if so this one
abbrev pub IsNextLineIf : Bool → Option (List ℕ) → Option (List ℕ) → List ℕ → Type 0
IsNextLineIf true old new line = IsNextLine old new line
IsNextLineIf false old new line = IsNoLine old
