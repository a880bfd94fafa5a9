-- The block of a text: parsed, and checked against the names that are known; or why it is refused.
use Rattle.std.specs.Prelude.{ℕ, List, [], Option, Some, None, Result, Ok, Err}
use Rattle.stm_terms.specs.declared.kinds.Ty.{Ty}
use Rattle.stm_terms.specs.declared.values.Value.{Value}
use Rattle.stm_terms.specs.ParsedAst as raw
use Rattle.stm_terms.specs.Ast.{Act}
use Rattle.stm_terms.specs.Typing.{ActionType}
use Rattle.stm_terms.specs.UnlessNoMemory.{AnswersExcept}
use Rattle.stm_parse.specs.declared.fault.ParseFault.{ParseFault}
use Rattle.stm_parse.specs.ParseFunction.{parsed_block}
use Rattle.stm_store.specs.Cells.{Covers}
use Rattle.stm_store.specs.Naming.{Named, named_uses}
use Rattle.stm_check.specs.TypedBlock.{Block}
use Rattle.stm_check.specs.CheckFunction.{checked}
use Rattle.stm_check.specs.CheckedBlock.{block_of_check}
use Rattle.stm_check.specs.declared.fault.TypeFault.{TypeFault}
use Rattle.stm_source.specs.declared.refusal.Refusal.{Refusal}
use Rattle.stm_source.specs.declared.refusal.Refusal.TheVariants.{Parsing, Typing}
use Rattle.stm_source.specs.OutOfMemory.{IsOutOfMemory}

-- the block that was checked, or the fault of its types
abbrev pub refused_typing : Result Block TypeFault → Result Block Refusal
refused_typing (Ok b) = Ok b
refused_typing (Err e) = Err (Typing e)

-- the block of a text whose tree is well typed, or the fault of its types
abbrev pub block_if_typed : List Named → List ℕ → Result (Act × ActionType) TypeFault → Result Block Refusal
block_if_typed known text r = refused_typing (block_of_check known text r)

-- the block of a text that is of the grammar, or the fault of the grammar
abbrev pub block_if_parsed : List Named → List ℕ → Result raw.RawAct ParseFault → Result Block Refusal
block_if_parsed known text (Ok t) = block_if_typed known text (checked known text [] t)
block_if_parsed known text (Err e) = Err (Parsing e)

-- the block of a text over these names; a fault of the grammar comes before a fault of types
unfoldable pub compiled_block : List Named → List ℕ → Result Block Refusal
compiled_block known text = block_if_parsed known text (parsed_block text)

-- the block, unless its text is refused
abbrev pub block_if_any : Result Block Refusal → Option Block
block_if_any (Ok b) = Some b
block_if_any (Err e) = None

-- the block that a text is over these names; none if it is refused
abbrev pub block_of_text : List Named → List ℕ → Option Block
block_of_text known text = block_if_any (compiled_block known text)

-- a call answers with this block or this refusal, unless memory ran out
abbrev pub CompilesTo : Result Block Refusal → Result Block Refusal → Type 0
CompilesTo result block = AnswersExcept IsOutOfMemory (λ b. b) result block

-- each store that has the named variables has those that the block names
abbrev pub UsesAreNamed : List Named → Block → Type 0
UsesAreNamed known b = (cells : List (Ty × Value)) → Covers cells (named_uses known) → Covers cells b.uses
