-- Tokens of a text as the grammar sees them: reserved words and symbols, numbers by their value, and names.
use Rattle.std.specs.Prelude.{ℕ, List, [], ◌∷◌, slice_range, codes, if◌then◌else◌, Option, Some, None}
use Rattle.std.specs.Str.{bytes_eq}
use Rattle.stm_terms.specs.Names.{is_name_text}
use Rattle.stm_parse.specs.declared.token.Mark.{Mark}
use Rattle.stm_parse.specs.declared.token.Mark.TheVariants as mark
use Rattle.stm_parse.specs.declared.token.TokenKind.{TokenKind}
use Rattle.stm_parse.specs.declared.token.TokenKind.TheVariants as tok
use Rattle.stm_parse.specs.declared.token.Lexeme.{Lexeme}
use Rattle.stm_parse.specs.declared.tokenizer.TokenClass.{TokenClass}
use Rattle.stm_parse.specs.declared.tokenizer.TokenClass.TheVariants as kind
use Rattle.stm_parse.specs.declared.tokenizer.Token.{Token}
use Rattle.stm_parse.specs.Bytes.{symbol_mark, number_of_digits}
use Rattle.stm_parse.specs.Terminals.{is_word_mark}

-- the words of control
unfoldable pub control_mark : List ℕ → Option Mark
control_mark word =
    if bytes_eq word (codes "do") then Some mark.Do
    else (if bytes_eq word (codes "let") then Some mark.Let
    else (if bytes_eq word (codes "if") then Some mark.If
    else (if bytes_eq word (codes "then") then Some mark.Then
    else (if bytes_eq word (codes "else") then Some mark.Else
    else None))))

-- the words that return a value, or read, write or make a variable
unfoldable pub action_mark : List ℕ → Option Mark
action_mark word =
    if bytes_eq word (codes "return") then Some mark.Return
    else (if bytes_eq word (codes "readTVar") then Some mark.ReadTVar
    else (if bytes_eq word (codes "writeTVar") then Some mark.WriteTVar
    else (if bytes_eq word (codes "newTVar") then Some mark.NewTVar
    else None)))

-- the words that end a branch, or say what runs after one that ended so
unfoldable pub choice_mark : List ℕ → Option Mark
choice_mark word =
    if bytes_eq word (codes "retry") then Some mark.Retry
    else (if bytes_eq word (codes "orElse") then Some mark.OrElse
    else (if bytes_eq word (codes "throw") then Some mark.Throw
    else (if bytes_eq word (codes "catch") then Some mark.Catch
    else None)))

-- the words for values and types
unfoldable pub value_mark : List ℕ → Option Mark
value_mark word =
    if bytes_eq word (codes "True") then Some mark.True
    else (if bytes_eq word (codes "False") then Some mark.False
    else (if bytes_eq word (codes "Int") then Some mark.Int
    else (if bytes_eq word (codes "Bool") then Some mark.Bool
    else (if bytes_eq word (codes "TVar") then Some mark.TVar
    else None))))

-- the mark of a word in one list, else in another
abbrev pub or_mark : Option Mark → Option Mark → Option Mark
or_mark None m = m
or_mark (Some k) m = Some k

-- a reserved word
abbrev pub word_mark : List ℕ → Option Mark
word_mark word = or_mark (control_mark word) (or_mark (action_mark word) (or_mark (choice_mark word) (value_mark word)))

-- a mark, if the bytes are one, else this kind
abbrev pub mark_or : Option Mark → TokenKind → TokenKind
mark_or None s = s
mark_or (Some m) s = tok.Mark m

-- a number, if the bytes are one within the limits
abbrev pub number_or : Option ℕ → TokenKind
number_or None = tok.Other
number_or (Some n) = tok.Number n

-- what the grammar sees in a token of this class, by its bytes
abbrev pub token_kind_of : TokenClass → List ℕ → TokenKind
token_kind_of kind.Word bytes = mark_or (word_mark bytes) (if is_name_text bytes then tok.Name else tok.Other)
token_kind_of kind.Number bytes = number_or (number_of_digits bytes)
token_kind_of kind.Symbol bytes = mark_or (symbol_mark bytes) tok.Other

-- the class of a token that the grammar sees as this
unfoldable pub class_of : TokenKind → TokenClass
class_of (tok.Mark m) = if is_word_mark m then kind.Word else kind.Symbol
class_of (tok.Number n) = kind.Number
class_of tok.Name = kind.Word
class_of tok.Other = kind.Word

-- a token as callers see it
abbrev pub token_of : Lexeme → Token
token_of x = record { kind = class_of x.sym; start = x.start; end = x.end }

-- a token of the text as the grammar sees it
abbrev pub lexeme_of : List ℕ → Token → Lexeme
lexeme_of text t = record { sym = token_kind_of t.kind (slice_range text t.start t.end); start = t.start; end = t.end }

-- the tokens of the text as the grammar sees them
abbrev pub lexemes_of : List ℕ → List Token → List Lexeme
lexemes_of text [] = []
lexemes_of text (t ∷ ts) = lexeme_of text t ∷ lexemes_of text ts
