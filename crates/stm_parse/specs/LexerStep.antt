-- What is at the front of some bytes, with what the grammar sees in it.
use Rattle.std.specs.Prelude.{◌≡◌, ℕ, List, take, ⊤}
use Rattle.stm_parse.specs.Front.{Front}
use Rattle.stm_parse.specs.Front as front
use Rattle.stm_parse.specs.declared.lexer.Piece.{Piece}
use Rattle.stm_parse.specs.declared.lexer.Piece.TheVariants as piece
use Rattle.stm_parse.specs.Lexing.{token_kind_of, class_of}

-- what is at the front of some bytes, with the class of a token in place of what the grammar sees
abbrev pub front_seen : Piece → Front
front_seen piece.Blank = front.Blank
front_seen (piece.Found sym n) = front.Found (class_of sym) n
front_seen piece.BadByte = front.BadByte
front_seen piece.LongName = front.LongName
front_seen piece.BadNumber = front.BadNumber

-- the grammar sees what these bytes are
abbrev pub IsSeen : List ℕ → Piece → Type 0
IsSeen bytes piece.Blank = ⊤
IsSeen bytes (piece.Found sym n) = sym ≡ token_kind_of (class_of sym) (take n bytes)
IsSeen bytes piece.BadByte = ⊤
IsSeen bytes piece.LongName = ⊤
IsSeen bytes piece.BadNumber = ⊤
