use Rattle.std.proofs.Common.{lit<}
use Rattle.stm_store.specs.Pages.{contents}
use Rattle.stm_store.proofs.PageLists.{length-flatten, vec-sizes}
use Rattle.stm_store.proofs.in_place.write.Goals as goal

pub write_pages-requires-clause-parts : goal.write_pages-requires-clause-parts
write_pages-requires-clause-parts c =
    let parts = contents c.cells.inside.pages.items in
    rw (c.as_mut_slice.ensures.value, length-flatten 4096 (lit< tt) c.cells.inside.len parts c.cells.invariant) c.cells.invariant

pub invariant_of-cells : goal.invariant_of-cells
invariant_of-cells c =
    vec-sizes 4096 (lit< tt) c.cells.inside.len c.cells.inside.pages c.write_pages.new.parts c.cells.invariant (rw (← c.as_mut_slice.ensures.value) c.write_pages.ensures.part_sizes)
