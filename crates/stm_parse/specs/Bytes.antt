-- The bytes of tokens.
use Rattle.std.specs.Prelude.{ℕ, ◌+◌, ◌-◌, ◌*◌, List, [], ◌∷◌, Bool, ◌&&◌, ◌||◌, nat_eq, nat_lt, if◌then◌else◌, length, Option, Some, None}
use Rattle.std.specs.List.{take_while}
use Rattle.stm_terms.specs.Names.{is_lower, is_upper, is_digit, is_word_byte}
use Rattle.stm_parse.specs.declared.token.Mark.{Mark}
use Rattle.stm_parse.specs.declared.token.Mark.TheVariants as mark

-- an ASCII letter
abbrev pub is_letter : ℕ → Bool
is_letter b = is_lower b || is_upper b

-- tab, line feed, carriage return, space
abbrev pub is_blank : ℕ → Bool
is_blank b = nat_eq b 9 || nat_eq b 10 || nat_eq b 13 || nat_eq b 32

-- <- <= == && ||
unfoldable pub pair_mark : ℕ → ℕ → Option Mark
pair_mark a b =
    if nat_eq a 60 && nat_eq b 45 then Some mark.Arrow
    else (if nat_eq a 60 && nat_eq b 61 then Some mark.Le
    else (if nat_eq a 61 && nat_eq b 61 then Some mark.EqEq
    else (if nat_eq a 38 && nat_eq b 38 then Some mark.AndAnd
    else (if nat_eq a 124 && nat_eq b 124 then Some mark.OrOr
    else None))))

-- { } ( ) ; : < = + - *
unfoldable pub single_mark : ℕ → Option Mark
single_mark a =
    if nat_eq a 123 then Some mark.LBrace
    else (if nat_eq a 125 then Some mark.RBrace
    else (if nat_eq a 40 then Some mark.LParen
    else (if nat_eq a 41 then Some mark.RParen
    else (if nat_eq a 59 then Some mark.Semicolon
    else (if nat_eq a 58 then Some mark.Colon
    else (if nat_eq a 60 then Some mark.Lt
    else (if nat_eq a 61 then Some mark.Equals
    else (if nat_eq a 43 then Some mark.Plus
    else (if nat_eq a 45 then Some mark.Minus
    else (if nat_eq a 42 then Some mark.Star
    else None))))))))))

-- the mark that these bytes write
abbrev pub symbol_mark : List ℕ → Option Mark
symbol_mark [] = None
symbol_mark (a ∷ []) = single_mark a
symbol_mark (a ∷ b ∷ []) = pair_mark a b
symbol_mark (a ∷ b ∷ c ∷ rest) = None

-- how many bytes of a word are at the front
abbrev pub word_len : List ℕ → ℕ
word_len bytes = length (take_while is_word_byte bytes)

-- how many digits are at the front
abbrev pub number_len : List ℕ → ℕ
number_len bytes = length (take_while is_digit bytes)

-- what a digit counts; another byte counts nothing
abbrev pub digit_value : ℕ → ℕ
digit_value b = if is_digit b then b - 48 else 0

-- the number that goes on with these digits
abbrev pub number_read : ℕ → List ℕ → ℕ
number_read n [] = n
number_read n (b ∷ bytes) = number_read (n * 10 + digit_value b) bytes

-- the most bytes of a word
abbrev pub longest_word : ℕ
longest_word = 32

-- the most digits of a number
abbrev pub most_digits : ℕ
most_digits = 19

-- the greatest number that is written, 2 ^ 63: after a minus it is an Int
abbrev pub greatest_written : ℕ
greatest_written = 9223372036854775808

-- the number of these digits, if they are not too many and it is not too great
unfoldable pub number_of_digits : List ℕ → Option ℕ
number_of_digits bytes =
    if nat_lt most_digits (length bytes) then None
    else (if nat_lt greatest_written (number_read 0 bytes) then None
    else Some (number_read 0 bytes))
