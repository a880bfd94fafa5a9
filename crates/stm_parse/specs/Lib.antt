-- What a reader has to believe: tokens, the grammar, which fault is reported, what callers see of declarations and expectations, and the laws.
pub mod Bytes
pub mod Declarations
pub mod Expectations
pub mod Faults
pub mod Grammar
pub mod Laws
pub mod LexedText
pub mod Lexing
pub mod MaximalMunch
pub mod NameTokens
pub mod ParseResult
pub mod Terminals
pub mod TypeTexts
-- The one answer for a text, which contracts name too, as a function: laws say that it is right.
pub mod ExpectationFunction
pub mod ParseFunction
pub mod Tokenizer
pub mod TypeFunction
-- The words inside, for the descent and for the front of a text.
pub mod Bounds
pub mod Descent
pub mod DescentResults
pub mod Front
pub mod LexerStep
