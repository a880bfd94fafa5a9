-- How a line is judged before a command sees it.
use Rattle.std.specs.Prelude.{ℕ, Bool, List, [], ◌∷◌, ◌==◌, nat_lt, nat_eq, if◌then◌else◌, codes, length, take, drop, ◌+◌}
use Rattle.std.specs.List.{list_any, starts_with}
use Rattle.stm_parse.specs.Bytes.{is_blank}

-- how many blanks a text begins with
abbrev pub blanks_len : List ℕ → ℕ
blanks_len [] = 0
blanks_len (b ∷ bs) = if is_blank b then blanks_len bs + 1 else 0

-- how many bytes are before the first blank
abbrev pub command_len : List ℕ → ℕ
command_len [] = 0
command_len (b ∷ bs) = if is_blank b then 0 else command_len bs + 1

-- the text after the blanks that it begins with
unfoldable pub skip_blanks : List ℕ → List ℕ
skip_blanks text = drop (blanks_len text) text

-- a comment begins with two dashes
unfoldable pub starts_comment : List ℕ → Bool
starts_comment text = starts_with nat_eq text (codes "--")

-- a byte that is no ASCII character
abbrev pub has_high_byte : List ℕ → Bool
has_high_byte line = list_any (λ b. nat_lt 127 b) line

-- a line is too long, prints nothing, has a byte that isn't ASCII, or is a command word with its argument
pub data LineClass : Type 0 where
  TooLong : LineClass
  Silent : LineClass
  NotAscii : LineClass
  Words : List ℕ → List ℕ → LineClass

-- the first word of a text, up to the next blank or the end
abbrev pub word_of : List ℕ → List ℕ
word_of text = take (command_len text) text

-- the rest of it, after the blanks that follow the word
abbrev pub argument_of : List ℕ → List ℕ
argument_of text = skip_blanks (drop (command_len text) text)

-- the command word and its argument
unfoldable pub class_of_words : List ℕ → LineClass
class_of_words text = Words (word_of text) (argument_of text)

-- the most bytes of a line
abbrev pub longest_line : ℕ
longest_line = 65536

-- the first that holds: more bytes than a line may have; a comment, or blanks alone; a byte over 127; and else two words
unfoldable pub line_class : List ℕ → LineClass
line_class line =
    if nat_lt longest_line (length line) then TooLong
    else if starts_comment line then Silent
    else if length (skip_blanks line) == 0 then Silent
    else if has_high_byte line then NotAscii
    else class_of_words (skip_blanks line)
