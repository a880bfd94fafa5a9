-- Which tokens a text has, or which fault first: the rules of docs/LANGUAGE.md, "Tokens", as a relation.
use Rattle.std.specs.Prelude.{◌≡◌, ℕ, ◌+◌, ◌<◌, ◌≤◌, List, [], ◌∷◌, length, take, drop, Bool, true, false, ◌&&◌, ◌||◌}
use Rattle.std.specs.Prelude.{nat_lt, if◌then◌else◌, Option, Some, None, Result, Ok, Err, codes}
use Rattle.std.specs.List.{list_all, list_any}
use Rattle.std.specs.Str.{bytes_eq}
use Rattle.stm_terms.specs.Names.{is_digit, is_word_byte}
use Rattle.stm_parse.specs.declared.tokenizer.TokenClass.{TokenClass}
use Rattle.stm_parse.specs.declared.tokenizer.TokenClass.TheVariants as kind
use Rattle.stm_parse.specs.declared.tokenizer.Token.{Token}
use Rattle.stm_parse.specs.declared.fault.ParseFault.{ParseFault}
use Rattle.stm_parse.specs.declared.fault.ParseFault.TheVariants as fault
use Rattle.stm_parse.specs.Bytes.{is_letter, is_blank, number_read, longest_word, most_digits, greatest_written}
use Rattle.stm_parse.specs.Tokenizer.{tokens_of}

-- the symbols, each by its bytes
abbrev pub symbols : List (List ℕ)
symbols =
    codes "{" ∷ codes "}" ∷ codes "(" ∷ codes ")" ∷ codes ";" ∷ codes ":" ∷ codes "<-" ∷ codes "<=" ∷ codes "<"
    ∷ codes "==" ∷ codes "=" ∷ codes "+" ∷ codes "-" ∷ codes "*" ∷ codes "&&" ∷ codes "||" ∷ []

-- whether these bytes are one of the symbols
unfoldable pub is_symbol : List ℕ → Bool
is_symbol bytes = list_any (bytes_eq bytes) symbols

-- whether these bytes are a token: a letter and then letters, digits, `_` and `'`; one or more digits; a symbol
abbrev pub is_token : TokenClass → List ℕ → Bool
is_token kind.Word [] = false
is_token kind.Word (b ∷ bytes) = is_letter b && list_all is_word_byte bytes
is_token kind.Number [] = false
is_token kind.Number (b ∷ bytes) = is_digit b && list_all is_digit bytes
is_token kind.Symbol bytes = is_symbol bytes

-- the first n bytes are a token of this kind, and no longer front of the bytes is a token
pub record IsLongest (bytes : List ℕ) (k : TokenClass) (n : ℕ) : Type 0 where
  pub within : n ≤ length bytes
  pub token : is_token k (take n bytes) ≡ true
  pub no_longer : (j : TokenClass) (m : ℕ) → n < m → m ≤ length bytes → is_token j (take m bytes) ≡ false

-- no front of the bytes is a token
abbrev pub BeginsNoToken : List ℕ → Type 0
BeginsNoToken bytes = (k : TokenClass) (n : ℕ) → is_token k (take n bytes) ≡ false

-- whether a number has too many digits, or is too great
abbrev pub is_too_large : List ℕ → Bool
is_too_large digits = nat_lt most_digits (length digits) || nat_lt greatest_written (number_read 0 digits)

-- the fault of a token at this place: a word that is too long, a number that is too great
abbrev pub token_fault : ℕ → TokenClass → List ℕ → Option ParseFault
token_fault place kind.Word bytes = if nat_lt longest_word (length bytes) then Some (fault.NameTooLong place) else None
token_fault place kind.Number bytes = if is_too_large bytes then Some (fault.BadNumber place) else None
token_fault place kind.Symbol bytes = None

-- what is reported of bytes: their tokens, or their first fault
abbrev pub Tokenization : Type 0
Tokenization = Result (List Token) ParseFault

-- a token comes before the tokens after it, and hides no fault after it
abbrev pub token_before : Token → Tokenization → Tokenization
token_before t (Ok ts) = Ok (t ∷ ts)
token_before t (Err e) = Err e

-- what is to be reported of the bytes from a place on
pub data IsTokenization : ℕ → List ℕ → Tokenization → Type 0 where
  -- nothing is left: no tokens
  at_end : {place : ℕ} → IsTokenization place [] (Ok [])
  -- a blank: what is reported of the bytes after it
  at_blank : {place b : ℕ} {bytes : List ℕ} {cut : Tokenization}
      → is_blank b ≡ true → IsTokenization (place + 1) bytes cut → IsTokenization place (b ∷ bytes) cut
  -- the longest token here is in order: it, and then what is reported of the bytes after it
  at_token : {place n : ℕ} {k : TokenClass} {bytes : List ℕ} {cut : Tokenization}
      → IsLongest bytes k n → token_fault place k (take n bytes) ≡ None → IsTokenization (place + n) (drop n bytes) cut
      → IsTokenization place bytes (token_before (record { kind = k; start = place; end = place + n }) cut)
  -- the longest token here is at fault: its fault
  at_fault : {place n : ℕ} {k : TokenClass} {bytes : List ℕ} {e : ParseFault}
      → IsLongest bytes k n → token_fault place k (take n bytes) ≡ Some e → IsTokenization place bytes (Err e)
  -- neither a blank nor a token: a bad byte
  at_bad_byte : {place b : ℕ} {bytes : List ℕ}
      → is_blank b ≡ false → BeginsNoToken (b ∷ bytes) → IsTokenization place (b ∷ bytes) (Err (fault.BadByte place))

-- what is reported of a text is so by the rules
abbrev pub TokensAreMaximal : Type 0
TokensAreMaximal = (text : List ℕ) → IsTokenization 0 text (tokens_of text)

-- by the rules one thing is reported of a text
abbrev pub TokenizationIsUnique : Type 0
TokenizationIsUnique = (text : List ℕ) (a b : Tokenization) → IsTokenization 0 text a → IsTokenization 0 text b → a ≡ b
