-- The one answer for a text that is read as a type, as a function. That it is right by the grammar is a law.
use Rattle.std.specs.Prelude.{ℕ, List, Result}
use Rattle.stm_terms.specs.declared.kinds.Ty.{Ty}
use Rattle.stm_parse.specs.declared.fault.ParseFault.{ParseFault}
use Rattle.stm_parse.specs.Descent.{Reader, type_at}
use Rattle.stm_parse.specs.Faults.{Language}
use Rattle.stm_parse.specs.Grammar.{IsType, deepest}
use Rattle.stm_parse.specs.ParseFunction.{IsAnswer, answered}

-- a type by itself, as a declaration has it after its colon
abbrev pub IsWholeType : Language Ty
IsWholeType us t = IsType 0 0 us t

-- a whole type
abbrev pub type_reader : Reader Ty
type_reader toks = type_at deepest 0 toks

-- the type that a text writes, or the fault that is reported
unfoldable pub parsed_type : List ℕ → Result Ty ParseFault
parsed_type text = answered type_reader text

-- the answer for each text that is read as a type is right by the grammar
abbrev pub TypeAnswersAreRight : Type 0
TypeAnswersAreRight = (text : List ℕ) → IsAnswer IsWholeType text (parsed_type text)
