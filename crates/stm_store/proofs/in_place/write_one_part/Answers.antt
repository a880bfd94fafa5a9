use Rattle.std.proofs.Common.{◌<◌, length, arith, append-nil}
use Rattle.std.specs.Arc.{arc_value}
use Rattle.stm_store.proofs.RangeWriteLemmas.{some_cells}
use Rattle.stm_store.proofs.in_place.write_one_part.Goals as goal

pub write_part-requires-clause-parts : goal.write_part-requires-clause-parts
write_part-requires-clause-parts c =
    let p = arc_value c.args.part.now in
    let some : 0 < length p = some_cells c.args.len (length p) c.args.writes.now c.requires.writes c.requires.some in
    rw (append-nil p) (some, omega (arith, c.requires.small), omega (arith, c.requires.small))
