use Rattle.std.proofs.Common.{length, map, ap, ◌∙◌, arith}
use Rattle.stm_store.specs.Cells.{new_cell, with_writes}
use Rattle.stm_store.proofs.ApplyPreservesTyping.{length-writes}
use Rattle.stm_store.proofs.RangeWriteLemmas.{writes_here}
use Rattle.stm_store.proofs.apply.add_and_write.Goals as goal

pub returns-clause-ok : goal.returns-clause-ok
returns-clause-ok c =
    let n = c.args.len in
    let ws = c.args.writes.now in
    c.in_ok-write.ensures.ok ∙ ap (with_writes n ws) c.in_ok-add_all.ensures.ok
    ∙ writes_here n n ws c.args.cells.now (map (new_cell n) c.args.news.now) c.requires.writable (omega (arith, c.requires.len))

pub returns-clause-long : goal.returns-clause-long
returns-clause-long c =
    omega (arith, c.in_ok-add_all.ensures.long, ap length c.in_ok-write.ensures.ok, length-writes c.args.len c.args.writes.now c.add_all.new.cells)
