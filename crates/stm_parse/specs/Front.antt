-- What is at the front of some bytes.
use Rattle.std.specs.Prelude.{ℕ}
use Rattle.stm_parse.specs.declared.tokenizer.TokenClass.{TokenClass}

-- a blank; a token of this class and length; a byte that begins no token; a word or a number past its limit
pub data Front : Type 0 where
  Blank : Front
  Found : TokenClass → ℕ → Front
  BadByte : Front
  LongName : Front
  BadNumber : Front
