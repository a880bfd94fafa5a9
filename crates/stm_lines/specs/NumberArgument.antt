-- The arguments of commands and of lines of scripts that are a number.
use Rattle.std.specs.Prelude.{ℕ, Bool, ◌&&◌, nat_lt, nat_le, List, Option, Some, None, if◌then◌else◌, take, drop}
use Rattle.std.specs.List.{list_all}
use Rattle.stm_parse.specs.Bytes.{is_blank, number_len, number_read}

-- from one to ten digits, followed only by blanks, and a number of at most 4294967295
abbrev pub is_number : ℕ → List ℕ → Bool
is_number n text =
    nat_lt 0 n && nat_le n 10 && nat_le (number_read 0 (take n text)) 4294967295 && list_all is_blank (drop n text)

-- the number that a text is
unfoldable pub number_argument : List ℕ → Option ℕ
number_argument text =
    if is_number (number_len text) text then Some (number_read 0 (take (number_len text) text)) else None
