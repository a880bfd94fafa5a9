-- A line that is too long is judged so, whatever its bytes.
use Rattle.std.proofs.Common.{◌≡◌, ℕ, ◌+◌, ◌-◌, ◌≤◌, ◌<◌, true, false, List, ◌++◌, length, take, refl, sym, ◌∙◌, arith, cond, length-append}
use Rattle.std.proofs.lemmas.Bool.{lt-ltb}
use Rattle.std.proofs.lemmas.List.{length-take-le}
use Rattle.std.specs.Io.BufRead.{ends_with_byte}
use Rattle.stm_lines.specs.LineClass.{TooLong, longest_line, line_class}
use Rattle.stm_lines.specs.Lines.{drop_return}

judged-too_long : (line : List ℕ) → longest_line < length line → line_class line ≡ TooLong
unfolding line_class
judged-too_long line h = rw (lt-ltb longest_line (length line) h) refl

length-drop_return : (line : List ℕ) → length line ≤ length (drop_return line) + 1
length-drop_return line = elim (ends_with_byte 13 line) as (λ t. length line ≤ length (cond t (take (length line - 1) line) line) + 1) [
  | true ↦ (let h : length line - 1 ≤ length line = omega arith in omega (arith, length-take-le (length line - 1) line h))
  | false ↦ omega arith
]

-- too many bytes for a line, even if the last is a carriage return
abbrev pub IsLong : List ℕ → Type 0
IsLong line = longest_line + 2 ≤ length line

-- the first bytes of a line that is too long are judged as the line, which a line feed ends
pub line_class-long : (line more : List ℕ) → IsLong line → line_class line ≡ line_class (drop_return (line ++ more))
line_class-long line more h =
    judged-too_long line (omega arith)
    ∙ sym (judged-too_long (drop_return (line ++ more)) (omega (arith, length-drop_return (line ++ more), length-append line more)))

-- and which the end of the input ends
pub line_class-long_last : (line more : List ℕ) → IsLong line → line_class line ≡ line_class (line ++ more)
line_class-long_last line more h = judged-too_long line (omega arith) ∙ sym (judged-too_long (line ++ more) (omega (arith, length-append line more)))
