-- The block of a parsed text: its tree with the names resolved, its text, the type of its result, and the variables that it names.
use Rattle.std.specs.Prelude.{ℕ, List, [], Option, Some, None, Result, Ok, Err}
use Rattle.stm_terms.specs.declared.kinds.Ty.{Ty}
use Rattle.stm_terms.specs.ParsedAst as raw
use Rattle.stm_terms.specs.Ast.{Act}
use Rattle.stm_terms.specs.Typing.{ActionType, Gives, Any, kinds_in, record_use_as, uses_of}
use Rattle.stm_store.specs.Naming.{Named, known_kinds}
use Rattle.stm_check.specs.TypedBlock.{Block}
use Rattle.stm_check.specs.CheckFunction.{checked}
use Rattle.stm_check.specs.declared.fault.TypeFault.{TypeFault}

-- the variables that were named, with one more at the end, unless it is one of them
abbrev pub with_use : ℕ → Ty → List (ℕ × Ty) → List (ℕ × Ty)
with_use i t us = record_use_as (kinds_in us i) (Some t) i us

-- the type of a result, none for any
abbrev pub given_type : ActionType → Option Ty
given_type (Gives t) = Some t
given_type Any = None

-- the block of a text whose tree was checked, or the fault of its types
abbrev pub block_of_check : List Named → List ℕ → Result (Act × ActionType) TypeFault → Result Block TypeFault
block_of_check known text (Ok c) =
    Ok (record {
      tree = c.0;
      text = text;
      result_type = given_type c.1;
      uses = uses_of (known_kinds known) c.0;
    })
block_of_check known text (Err e) = Err e

-- the block of a text with this parsed tree, over these names; or the first fault of its types
abbrev pub checked_block : List Named → List ℕ → raw.RawAct → Result Block TypeFault
checked_block known text tree = block_of_check known text (checked known text [] tree)
