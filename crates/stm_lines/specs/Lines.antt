-- How an input is cut into lines.
use Rattle.std.specs.Prelude.{◌≢◌, ℕ, List, [], ◌∷◌, ◌++◌, ◌==◌, if◌then◌else◌}
use Rattle.std.specs.Io.BufRead.{strip_last}
use Rattle.std.specs.List.{All}

-- a line that ended by a line feed, without one carriage return at its end
abbrev pub drop_return : List ℕ → List ℕ
drop_return line = strip_last 13 line

-- the last line, which no line feed ends, counts unless it is empty
abbrev pub last_lines : List ℕ → List (List ℕ)
last_lines [] = []
last_lines (b ∷ bs) = (b ∷ bs) ∷ []

-- the lines of what follows, of which the first has begun
abbrev pub lines_from : List ℕ → List ℕ → List (List ℕ)
lines_from begun [] = last_lines begun
lines_from begun (b ∷ bs) = if b == 10 then drop_return begun ∷ lines_from [] bs else lines_from (begun ++ b ∷ []) bs

-- the lines of an input
abbrev pub lines_of : List ℕ → List (List ℕ)
lines_of input = lines_from [] input

-- those of the lines that a line feed ends
abbrev pub whole_lines_from : List ℕ → List ℕ → List (List ℕ)
whole_lines_from begun [] = []
whole_lines_from begun (b ∷ bs) =
    if b == 10 then drop_return begun ∷ whole_lines_from [] bs else whole_lines_from (begun ++ b ∷ []) bs

-- the lines of an input that a line feed ends
abbrev pub whole_lines_of : List ℕ → List (List ℕ)
whole_lines_of input = whole_lines_from [] input

-- none of the bytes is a line feed
abbrev pub NoLineFeed : List ℕ → Type 0
NoLineFeed bytes = All (λ b. b ≢ 10) bytes
