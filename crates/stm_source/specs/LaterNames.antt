-- Names that come after those that were known before.
use Rattle.std.specs.Prelude.{◌≡◌, ℕ, List, ◌++◌, Ok}
use Rattle.stm_store.specs.Naming.{Named}
use Rattle.stm_check.specs.TypedBlock.{Block}
use Rattle.stm_source.specs.CompiledBlock.{compiled_block}

-- the names are these, and maybe others after them
pub record NamesFollow (few names : List Named) : Type 0 where
  pub later : List Named
  pub are : names ≡ few ++ later

-- the block that a text parses and checks to stays the same block if more names are known
abbrev pub CheckedBlocksStay : Type 0
CheckedBlocksStay =
    (few more : List Named) (text : List ℕ) (block : Block)
    → compiled_block few text ≡ Ok block → compiled_block (few ++ more) text ≡ Ok block
