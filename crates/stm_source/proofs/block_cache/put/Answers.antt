use Rattle.std.proofs.Common.{sym, subst}
use Rattle.stm_check.specs.TypedBlock.{Block}
use Rattle.stm_source.specs.BlockCache.{IsBlockOf}
use Rattle.stm_source.proofs.PreparedBlocks.{prepared_set}
use Rattle.stm_source.proofs.block_cache.put.Goals as goal

pub returns-in-Ok : goal.returns-in-Ok
returns-in-Ok c = λ known h k. prepared_set known c.args.blocks.now c.args.place c.in-Ok.block (subst (λ (b : Block). IsBlockOf known b.text b) (sym c.in-Ok.ensures) k) h
