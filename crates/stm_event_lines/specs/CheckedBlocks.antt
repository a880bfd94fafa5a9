-- What holds of the block that a text parses and checks to.
use Rattle.std.specs.Prelude.{◌≡◌, ℕ, List, Ok}
use Rattle.stm_store.specs.Naming.{Named}
use Rattle.stm_check.specs.TypedBlock.{Block}
use Rattle.stm_source.specs.CompiledBlock.{compiled_block}
use Rattle.stm_events.specs.Laws.{IsWellTyped}

-- a block that a text parses and checks to is well typed
abbrev pub CheckedAreWellTyped : Type 0
CheckedAreWellTyped =
    (known : List Named) (text : List ℕ) (block : Block) → compiled_block known text ≡ Ok block → IsWellTyped block
