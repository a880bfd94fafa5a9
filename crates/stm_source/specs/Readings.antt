-- What a text is read as: the grammar alone says it.
use Rattle.std.specs.Prelude.{◌≡◌, ℕ, List, Result}
use Rattle.stm_parse.specs.declared.fault.ParseFault.{ParseFault}
use Rattle.stm_parse.specs.Faults.{Language}
use Rattle.stm_parse.specs.ParseFunction.{IsAnswer}

-- at most one answer for a text is right by the grammar
abbrev pub HasOneAnswer : {A : Type 0} → Language A → Type 0
HasOneAnswer {A} L = (text : List ℕ) (r s : Result A ParseFault) → IsAnswer L text r → IsAnswer L text s → r ≡ s

-- the answer of this function for each text is the one that is right by the grammar
pub record IsTheReading {A : Type 0} (L : Language A) (read : List ℕ → Result A ParseFault) : Type 0 where
  -- it is right
  pub right : (text : List ℕ) → IsAnswer L text (read text)
  -- no other is
  pub only : HasOneAnswer L
