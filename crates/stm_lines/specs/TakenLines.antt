-- What a line reader takes of an input: lines as they are, byte by byte.
use Rattle.std.specs.Prelude.{◌≡◌, ℕ, ◌+◌, ◌*◌, ◌<◌, ◌≤◌, Bool, true, false, List, [], ◌∷◌, ◌++◌, length, Option}
use Rattle.std.specs.Io.KnownBytes.{Consumes, IsAtEnd}
use Rattle.stm_lines.specs.Lines.{NoLineFeed}
use Rattle.stm_lines.specs.declared.line_reader.Line.{Line}
use Rattle.stm_lines.specs.declared.line_reader.Line.TheVariants as line
use Rattle.stm_lines.specs.declared.line_reader.Part.{Part}
use Rattle.stm_lines.specs.declared.line_reader.Part.TheVariants as part
use Rattle.stm_lines.specs.declared.run_fault.RunFault.{RunFault}
use Rattle.stm_lines.specs.declared.run_fault.RunFault.TheVariants as fault

-- a line feed is among the bytes
abbrev pub HasLineFeed : List ℕ → Type 0
HasLineFeed bytes = ¬ NoLineFeed bytes

-- bytes of one line were taken, and no line feed
pub record TakesPartOfLine (old new : Option (List ℕ)) (bytes : List ℕ) : Type 0 where
  pub plain : NoLineFeed bytes
  pub taken : Consumes old new bytes

-- a line and its line feed were taken
pub record TakesWholeLine (old new : Option (List ℕ)) (bytes : List ℕ) : Type 0 where
  pub plain : NoLineFeed bytes
  pub taken : Consumes old new (bytes ++ 10 ∷ [])

-- all that was left was taken, and has no line feed
pub record TakesLastLine (old new : Option (List ℕ)) (bytes : List ℕ) : Type 0 where
  pub plain : NoLineFeed bytes
  pub taken : Consumes old new bytes
  pub at_end : IsAtEnd new

-- the line that was read, of at most `limit` bytes; of a line that is too long one byte more was taken
abbrev pub IsRead : Line → ℕ → Option (List ℕ) → Option (List ℕ) → List ℕ → Type 0
IsRead line.Whole limit old new bytes = TakesWholeLine old new bytes × (length bytes ≤ limit)
IsRead line.Last limit old new bytes = TakesLastLine old new bytes × (0 < length bytes) × (length bytes ≤ limit)
IsRead line.TooLong limit old new bytes = TakesPartOfLine old new bytes × (length bytes ≡ limit + 1)
IsRead line.End limit old new bytes = TakesLastLine old new bytes × (bytes ≡ [])

-- the rest of a line was taken, with its line feed or to the end of the input
abbrev pub IsSkipped : Bool → Option (List ℕ) → Option (List ℕ) → Type 0
IsSkipped true old new = (bytes : List ℕ) × TakesWholeLine old new bytes
IsSkipped false old new = (bytes : List ℕ) × TakesLastLine old new bytes

-- reading stopped in a line, of which these bytes were taken; after a failed read the reader holds no byte more. Reading never fails as
-- writing does
abbrev pub StopsInLine : RunFault → Option (List ℕ) → Option (List ℕ) → List ℕ → List ℕ → Type 0
StopsInLine fault.Read old new held bytes = TakesPartOfLine old new bytes × (held ≡ [])
StopsInLine fault.NoMemory old new held bytes = TakesPartOfLine old new bytes
StopsInLine fault.Write old new held bytes = ⊥

-- ---- inside the reader
-- at most this many bytes are still to come, with these calls of the reader left and these bytes in the chunk
abbrev pub bytes_to_come : ℕ → List ℕ → ℕ
bytes_to_come left chunk = left * 65536 + length chunk

-- what a part of the chunk adds to the line that has begun, and what of the chunk is left
abbrev pub IsPart : Part → ℕ → List ℕ → List ℕ → List ℕ → List ℕ → Type 0
IsPart part.Whole limit begun line chunk rest =
    (bytes : List ℕ) × NoLineFeed bytes × (line ≡ begun ++ bytes) × (chunk ≡ bytes ++ 10 ∷ rest) × (length line ≤ limit)
IsPart part.TooLong limit begun line chunk rest =
    (bytes : List ℕ) × NoLineFeed bytes × (line ≡ begun ++ bytes) × (chunk ≡ bytes ++ rest) × (length line ≡ limit + 1)
IsPart part.More limit begun line chunk rest =
    NoLineFeed chunk × (line ≡ begun ++ chunk) × (rest ≡ []) × (length line ≤ limit)

-- what was skipped of the chunk, and what of it is left
abbrev pub IsSkippedPart : Bool → List ℕ → List ℕ → Type 0
IsSkippedPart true chunk rest = (bytes : List ℕ) × NoLineFeed bytes × (chunk ≡ bytes ++ 10 ∷ rest)
IsSkippedPart false chunk rest = NoLineFeed chunk × (rest ≡ [])
