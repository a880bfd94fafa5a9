-- The tokens that are names, in the text that they are cut from.
use Rattle.std.specs.Prelude.{◌≡◌, ℕ, List, [], ◌∷◌, length, ⊤}
use Rattle.stm_terms.specs.ParsedAst.{IsSpan}
use Rattle.stm_terms.specs.ParsedBlock.{IsNameOf}
use Rattle.stm_parse.specs.declared.token.TokenKind.TheVariants as tok
use Rattle.stm_parse.specs.declared.token.Lexeme.{Lexeme}

-- a token that is a name is a span of the text, and a name there
abbrev pub NameSpanIsName : List ℕ → Lexeme → Type 0
NameSpanIsName text x = x.sym ≡ tok.Name → IsSpan (length text) x.start x.end × IsNameOf text x.start x.end

-- each token that is a name is such a span
abbrev pub NamesOf : List ℕ → List Lexeme → Type 0
NamesOf text [] = ⊤
NamesOf text (x ∷ ls) = NameSpanIsName text x × NamesOf text ls
