-- How a text is cut: at each place that is no blank the longest token.
use Rattle.std.specs.Prelude.{ℕ, zero, suc, ◌+◌, ◌-◌, ◌<◌, ◌≤◌, List, [], ◌∷◌, ◌++◌, take, Result, Ok, Err, nat_lt, if◌then◌else◌, Option, Some, None, ⊤}
use Rattle.stm_terms.specs.Names.{is_digit}
use Rattle.stm_parse.specs.Bytes.{is_letter, is_blank, symbol_mark, word_len, longest_word, number_len, number_of_digits}
use Rattle.stm_parse.specs.declared.token.Mark.{Mark}
use Rattle.stm_parse.specs.declared.tokenizer.TokenClass.TheVariants as kind
use Rattle.stm_parse.specs.declared.tokenizer.Token.{Token}
use Rattle.stm_parse.specs.Front.{Front}
use Rattle.stm_parse.specs.Front as front
use Rattle.stm_parse.specs.declared.fault.ParseFault.{ParseFault}
use Rattle.stm_parse.specs.declared.fault.ParseFault.TheVariants as fault

-- a symbol of one byte, or a bad byte
abbrev pub one_symbol : Option Mark → Front
one_symbol None = front.BadByte
one_symbol (Some m) = front.Found kind.Symbol 1

-- a symbol of two bytes, else one of the first byte alone
abbrev pub two_symbol : Option Mark → ℕ → Front
two_symbol (Some m) a = front.Found kind.Symbol 2
two_symbol None a = one_symbol (symbol_mark (a ∷ []))

-- the longest symbol at the front, or a bad byte
abbrev pub symbol_front : List ℕ → Front
symbol_front [] = front.BadByte
symbol_front (a ∷ []) = one_symbol (symbol_mark (a ∷ []))
symbol_front (a ∷ b ∷ rest) = two_symbol (symbol_mark (a ∷ b ∷ [])) a

-- a word of n bytes, or one past the limit
abbrev pub word_front : ℕ → Front
word_front n = if nat_lt longest_word n then front.LongName else front.Found kind.Word n

-- a number of n digits, or one past the limits
abbrev pub number_front : ℕ → Option ℕ → Front
number_front n None = front.BadNumber
number_front n (Some v) = front.Found kind.Number n

-- what is at the front of bytes that begin with b
abbrev pub front_by : ℕ → List ℕ → Front
front_by b bytes =
    if is_blank b then front.Blank
    else (if is_letter b then word_front (word_len bytes)
    else (if is_digit b then number_front (number_len bytes) (number_of_digits (take (number_len bytes) bytes))
    else symbol_front bytes))

-- what is at the front of some bytes
unfoldable pub front_of : List ℕ → Front
front_of [] = front.BadByte
front_of (b ∷ rest) = front_by b (b ∷ rest)

-- these tokens and then the others, or the fault among the others
abbrev pub with_front : List Token → Result (List Token) ParseFault → Result (List Token) ParseFault
with_front before (Ok ts) = Ok (before ++ ts)
with_front before (Err e) = Err e

-- what is reported from a place on: what is at the front there, and then what go gives
abbrev pub next : Front → ℕ → (ℕ → Result (List Token) ParseFault) → Result (List Token) ParseFault
next front.Blank place go = go 0
next (front.Found kind n) place go = with_front (record { kind = kind; start = place; end = place + n } ∷ []) (go (n - 1))
next front.BadByte place go = Err (fault.BadByte place)
next front.LongName place go = Err (fault.NameTooLong place)
next front.BadNumber place go = Err (fault.BadNumber place)

-- the tokens of bytes that begin at the place; the first `skip` bytes belong to a token that is cut already
unfoldable pub cut : ℕ → ℕ → List ℕ → Result (List Token) ParseFault
cut skip place [] = Ok []
cut (suc k) place (b ∷ bytes) = cut k (place + 1) bytes
cut zero place (b ∷ bytes) = next (front_of (b ∷ bytes)) place (λ k. cut k (place + 1) bytes)

-- the tokens of a text, or the first fault by place
abbrev pub tokens_of : List ℕ → Result (List Token) ParseFault
tokens_of text = cut 0 0 text

-- the spans rise, don't overlap, and lie within the places from p to n
abbrev pub SpansRise : ℕ → ℕ → List Token → Type 0
SpansRise p n [] = p ≤ n
SpansRise p n (t ∷ ts) = (p ≤ t.start) × (t.start < t.end) × (t.end ≤ n) × SpansRise t.end n ts

-- a token has at least one byte, and no more than there are
abbrev pub IsWithin : Front → ℕ → Type 0
IsWithin front.Blank size = 0 < size
IsWithin (front.Found kind n) size = (0 < n) × (n ≤ size)
IsWithin front.BadByte size = ⊤
IsWithin front.LongName size = ⊤
IsWithin front.BadNumber size = ⊤

-- a fault of tokens, or an out-of-memory error
abbrev pub IsTokenFault : ParseFault → Type 0
IsTokenFault (fault.BadByte n) = ⊤
IsTokenFault (fault.BadNumber n) = ⊤
IsTokenFault (fault.NameTooLong n) = ⊤
IsTokenFault (fault.Unexpected n) = ⊥
IsTokenFault fault.EndOfText = ⊥
IsTokenFault fault.TooDeep = ⊥
IsTokenFault fault.TooLarge = ⊥
IsTokenFault fault.NoMemory = ⊤
