-- How long the lines of a text are, as they are measured while it is written.
use Rattle.std.specs.Prelude.{ℕ, ◌+◌, nat_eq, nat_lt, if◌then◌else◌, List, [], ◌∷◌, Option, Some, None}
use Rattle.stm_history.specs.Judgement.{max_line}

-- how many bytes the last line has with this byte: none if it is too long then
abbrev pub line_with : ℕ → ℕ → Option ℕ
line_with n b = if nat_eq b 10 then Some 0 else if nat_lt n max_line then Some (n + 1) else None

-- how many bytes the last line has after these bytes, from what it had before them: none once a line is too long
abbrev pub last_line_after : Option ℕ → List ℕ → Option ℕ
last_line_after None bytes = None
last_line_after (Some n) [] = Some n
last_line_after (Some n) (b ∷ bytes) = last_line_after (line_with n b) bytes
