use Rattle.stm_source.proofs.PreparedBlocks.{prepared_none}
use Rattle.stm_source.proofs.block_cache.forget.Goals as goal

pub loop-place-preserved : goal.loop-place-preserved
loop-place-preserved c = λ known h. prepared_none known c.loop-place.blocks c.loop-place.place (c.loop-place.invariant known h)
