-- A block that a text checks to is well typed.
use Rattle.std.proofs.Common.{◌≡◌, ℕ, List, [], Result, Ok, Err, refl, subst}
use Rattle.stm_terms.specs.Ast.{Act}
use Rattle.stm_terms.specs.ParsedAst as raw
use Rattle.stm_terms.specs.Typing.{ActionType, uses_of}
use Rattle.stm_parse.specs.declared.fault.ParseFault.{ParseFault}
use Rattle.stm_parse.specs.ParseFunction.{parsed_block}
use Rattle.stm_store.specs.Naming.{Named, known_kinds}
use Rattle.stm_check.specs.CheckFunction.{checked}
use Rattle.stm_check.specs.CheckedBlock.{given_type}
use Rattle.stm_check.specs.TypedBlock.{Block}
use Rattle.stm_check.specs.declared.fault.TypeFault.{TypeFault}
use Rattle.stm_check.proofs.TypedBlockInvariant.{kept_type}
use Rattle.stm_events.specs.Laws.{IsWellTyped}
use Rattle.stm_event_lines.specs.CheckedBlocks.{CheckedAreWellTyped}
use Rattle.stm_source.specs.CompiledBlock.{block_if_typed, block_if_parsed, compiled_block}

block_by : (known : List Named) (text : List ℕ) (tree : raw.RawAct) (block : Block) (o : Result (Act × ActionType) TypeFault) → checked known text [] tree ≡ o → block_if_typed known text o ≡ Ok block → IsWellTyped block
block_by known text tree block (Err f) c e = cc
block_by known text tree block (Ok p) c e =
    let made : Block = record { tree = p.0; text = text; result_type = given_type p.1; uses = uses_of (known_kinds known) p.0 } in
    let q : made ≡ block = cc in
    subst IsWellTyped q (p.1, kept_type known text tree p.0 p.1 (uses_of (known_kinds known) p.0) c refl)

parsed_by : (known : List Named) (text : List ℕ) (block : Block) (o : Result raw.RawAct ParseFault) → block_if_parsed known text o ≡ Ok block → IsWellTyped block
parsed_by known text block (Err f) e = cc
parsed_by known text block (Ok tree) e = block_by known text tree block (checked known text [] tree) refl e

pub checked_are_well_typed : CheckedAreWellTyped
unfolding compiled_block
checked_are_well_typed known text block e = parsed_by known text block (parsed_block text) e
