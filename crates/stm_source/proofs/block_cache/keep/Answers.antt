use Rattle.stm_source.proofs.block_cache.keep.Goals as goal

pub returns : goal.returns
returns c = λ known h is. c.put.ensures known (c.make_room.ensures known h) is
