use Rattle.stm_source.proofs.PreparedBlocks.{prepared_now}
use Rattle.stm_source.proofs.block_cache.BlockCache.follow.Goals as goal

pub invariant_of-self : goal.invariant_of-self
invariant_of-self c = prepared_now _ _ _ _ _ c.self.view_is c.requires c.of.ensures c.self.invariant
