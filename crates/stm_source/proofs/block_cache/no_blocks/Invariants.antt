use Rattle.std.proofs.Common.{List}
use Rattle.stm_store.specs.Naming.{Named}
use Rattle.stm_source.specs.BlockCache.{ArePrepared}
use Rattle.stm_source.proofs.block_cache.no_blocks.Given as goal

abbrev pub invariant-loop-place : goal.invariant-loop-place
invariant-loop-place l = (known : List Named) → ArePrepared known l.made.items
