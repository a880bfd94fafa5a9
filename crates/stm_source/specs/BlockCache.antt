-- Blocks that were checked before, and are kept by their texts.
use Rattle.std.specs.Prelude.{◌≡◌, ℕ, List, [], ◌∷◌, Option, Some, None, Ok}
use Rattle.stm_check.specs.TypedBlock.{Block}
use Rattle.stm_store.specs.Naming.{Named}
use Rattle.stm_source.specs.CompiledBlock.{compiled_block, UsesAreNamed}

-- the block is that of the text over these names, and each store that has the named variables has those that it names
abbrev pub IsBlockOf : List Named → List ℕ → Block → Type 0
IsBlockOf known text b = (compiled_block known text ≡ Ok b) × UsesAreNamed known b

-- a block that is kept is that of its text
abbrev pub IsPrepared : List Named → Option Block → Type 0
IsPrepared known None = Unit {0}
IsPrepared known (Some b) = IsBlockOf known b.text b

-- each of the blocks is
abbrev pub ArePrepared : List Named → List (Option Block) → Type 0
ArePrepared known [] = Unit {0}
ArePrepared known (o ∷ os) = IsPrepared known o × ArePrepared known os
