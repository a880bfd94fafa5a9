-- Marks, and the test whether a token is one.
use Rattle.std.specs.Prelude.{◌≡◌, ℕ, Bool, false, nat_eq, nat_lt}
use Rattle.stm_parse.specs.declared.token.Mark.{Mark}
use Rattle.stm_parse.specs.declared.token.Mark.TheVariants as mark
use Rattle.stm_parse.specs.declared.token.TokenKind.{TokenKind}
use Rattle.stm_parse.specs.declared.token.TokenKind.TheVariants as sym
use Rattle.stm_parse.specs.declared.token.Lexeme.{Lexeme}

-- marks by number, the reserved words before the symbols
abbrev pub code : Mark → ℕ
code mark.Do = 0
code mark.Let = 1
code mark.If = 2
code mark.Then = 3
code mark.Else = 4
code mark.Return = 5
code mark.ReadTVar = 6
code mark.WriteTVar = 7
code mark.NewTVar = 8
code mark.Retry = 9
code mark.OrElse = 10
code mark.Throw = 11
code mark.Catch = 12
code mark.True = 13
code mark.False = 14
code mark.Int = 15
code mark.Bool = 16
code mark.TVar = 17
code mark.LBrace = 18
code mark.RBrace = 19
code mark.LParen = 20
code mark.RParen = 21
code mark.Semicolon = 22
code mark.Colon = 23
code mark.Arrow = 24
code mark.Le = 25
code mark.Lt = 26
code mark.EqEq = 27
code mark.Equals = 28
code mark.Plus = 29
code mark.Minus = 30
code mark.Star = 31
code mark.AndAnd = 32
code mark.OrOr = 33

-- whether a mark is a reserved word
abbrev pub is_word_mark : Mark → Bool
is_word_mark m = nat_lt (code m) 18

-- whether a token is this mark
abbrev pub is_mark : Mark → TokenKind → Bool
is_mark m (sym.Mark k) = nat_eq (code k) (code m)
is_mark m (sym.Number n) = false
is_mark m sym.Name = false
is_mark m sym.Other = false

-- the token is this mark
abbrev pub IsMark : Mark → Lexeme → Type 0
IsMark m x = x.sym ≡ sym.Mark m
