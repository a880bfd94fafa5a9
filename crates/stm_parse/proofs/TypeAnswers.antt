-- The reader of whole types is good, and the call answers as the grammar allows.
use Rattle.std.proofs.Common.{◌≡◌, ℕ, List, arith, Ok, Err, ◌≢◌}
use Rattle.stm_terms.specs.declared.kinds.Ty.{Ty}
use Rattle.stm_parse.specs.declared.token.Lexeme.{Lexeme}
use Rattle.stm_parse.specs.declared.token.Failure.{Failure}
use Rattle.stm_parse.specs.declared.fault.ParseFault.{ParseFault}
use Rattle.stm_parse.specs.declared.fault.ParseFault.TheVariants as fault
use Rattle.stm_parse.specs.Descent.{StopsAs, whole}
use Rattle.stm_parse.specs.Grammar.{deepest}
use Rattle.stm_parse.specs.ParseResult.{LexesWithinLimits, IsEarly, fault_of_failure}
use Rattle.stm_parse.specs.TypeFunction.{IsWholeType, type_reader, parsed_type, TypeAnswersAreRight}
use Rattle.stm_parse.proofs.AnswersCorrect.{answer_right, ok_answer, stop_answer, early_answer}
use Rattle.stm_parse.proofs.ReaderCorrect.{Good, Any}
use Rattle.stm_parse.proofs.TypeReaders.{good_type}

pub good_whole_type : (n : ℕ) → Good n type_reader IsWholeType Any
good_whole_type n = good_type deepest 0 (omega arith) 0 (omega arith) n

pub early_type : (text : List ℕ) (e : ParseFault) → IsEarly text e → e ≢ fault.NoMemory → parsed_type text ≡ Err e
unfolding parsed_type
early_type text e h = early_answer type_reader text e h

pub ok_type : (text : List ℕ) (ls : List Lexeme) → LexesWithinLimits text ls → (t : Ty) → whole type_reader ls ≡ Ok t → parsed_type text ≡ Ok t
unfolding parsed_type
ok_type text ls f t e = ok_answer type_reader text ls f t e

pub stop_type : (text : List ℕ) (ls : List Lexeme) → LexesWithinLimits text ls → (e : Failure) → StopsAs e (whole type_reader ls) → fault_of_failure ls e ≢ fault.NoMemory → parsed_type text ≡ Err (fault_of_failure ls e)
unfolding parsed_type
stop_type text ls f e h = stop_answer type_reader text ls f e h

pub types_are_right : TypeAnswersAreRight
unfolding parsed_type
types_are_right text = answer_right type_reader IsWholeType good_whole_type text
