-- What the lexer makes of a text: its tokens, or their first fault.
use Rattle.std.specs.Prelude.{◌≡◌, ◌≢◌, ℕ, List, length, map, Result, Ok, Err, Vec}
use Rattle.std.specs.declared.alloc.Global.{Global}
use Rattle.std.specs.Str.{IsAscii}
use Rattle.stm_parse.specs.declared.token.Lexeme.{Lexeme}
use Rattle.stm_parse.specs.declared.fault.ParseFault.{ParseFault}
use Rattle.stm_parse.specs.declared.fault.ParseFault.TheVariants as fault
use Rattle.stm_parse.specs.Lexing.{token_of}
use Rattle.stm_parse.specs.NameTokens.{NamesOf}
use Rattle.stm_parse.specs.ParseResult.{Lexes}
use Rattle.stm_parse.specs.Tokenizer.{tokens_of, SpansRise, IsTokenFault}

-- these are the tokens of the text, as the grammar sees them
pub record AreLexemes (text : List ℕ) (ls : List Lexeme) : Type 0 where
  -- the text is cut into them by the rules
  pub lexes : Lexes text ls
  -- without what the grammar sees in them they are the tokens that the definition finds
  pub classes : tokens_of text ≡ Ok (map token_of ls)
  -- they follow one another in the text
  pub rise : SpansRise 0 (length text) (map token_of ls)
  -- the text is ASCII, so each of its places is between characters
  pub ascii : IsAscii text
  -- each that is a name is a name of the text
  pub names : NamesOf text ls

-- the tokens of the text; or its first fault of tokens, unless memory ran out
abbrev pub LexesTo : List ℕ → Result (Vec Lexeme Global) ParseFault → Type 0
LexesTo text (Ok v) = AreLexemes text v.items
LexesTo text (Err e) = IsTokenFault e × (e ≢ fault.NoMemory → tokens_of text ≡ Err e)
