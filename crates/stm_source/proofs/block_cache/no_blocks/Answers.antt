use Rattle.std.proofs.Common.{rules, ◌≡◌, [], ◌∷◌, ◌++◌, None, sym, subst}
use Rattle.stm_source.specs.BlockCache.{ArePrepared}
use Rattle.stm_source.proofs.PreparedBlocks.{prepared_push}
use Rattle.stm_source.proofs.block_cache.no_blocks.Goals as goal

pub loop-place-preserved : goal.loop-place-preserved
loop-place-preserved c =
    let p : c.push.new.self.items ≡ c.loop-place.made.items ++ None ∷ [] = search rules in
    λ known. subst (ArePrepared known) (sym p) (prepared_push known c.loop-place.made.items (c.loop-place.invariant known))
