use Rattle.std.proofs.Common.{◌<◌, arith}
use Rattle.stm_store.proofs.PageLists.{length-items, within, page_at, kept-set, kept-same, pages-set_or_same, on_ok, on_err_of}
use Rattle.stm_store.proofs.paged_list.PagedCells.set.Goals as goal

pub index_mut-requires : goal.index_mut-requires
index_mut-requires g c =
    let s = g.P.AsPage.SIZE in
    let full = g.met.P.AsPage.room in
    let v = g.P.Cells.cells in
    let n = c.self.inside.len in
    let ptrs = c.self.inside.pages.items in
    let h : c.args.id < n = omega (arith, length-items s full v n ptrs c.args.self.now c.self.invariant c.self.view_is, c.requires) in
    let p = c.place-page.result.0 in
    let w = within s full v n ptrs c.args.id p c.self.invariant (omega (arith, c.place-page.ensures.id)) h in
    omega (arith, w)

pub set_cell-requires : goal.set_cell-requires
set_cell-requires g c =
    let s = g.P.AsPage.SIZE in
    let full = g.met.P.AsPage.room in
    let v = g.P.Cells.cells in
    let n = c.self.inside.len in
    let ptrs = c.self.inside.pages.items in
    let h : c.args.id < n = omega (arith, length-items s full v n ptrs c.args.self.now c.self.invariant c.self.view_is, c.requires) in
    let p = c.place-page.result.0 in
    let w = within s full v n ptrs c.args.id p c.self.invariant (omega (arith, c.place-page.ensures.id)) h in
    let l = page_at s full v n ptrs p c.index_mut.result.now c.self.invariant w c.index_mut.ensures.value in
    omega (arith, l, c.place-page.ensures.id, c.place-page.ensures.at)

pub invariant_of-self : goal.invariant_of-self
invariant_of-self g c =
    let s = g.P.AsPage.SIZE in
    let full = g.met.P.AsPage.room in
    let v = g.P.Cells.cells in
    let n = c.self.inside.len in
    let ptrs = c.self.inside.pages.items in
    let h : c.args.id < n = omega (arith, length-items s full v n ptrs c.args.self.now c.self.invariant c.self.view_is, c.requires) in
    let p = c.place-page.result.0 in
    pages-set_or_same s full v c.set_cell.result n ptrs p c.place-page.result.1 c.args.id c.index_mut.result.now c.set_cell.new.page c.args.cell c.self.invariant h c.place-page.ensures.at c.place-page.ensures.id c.index_mut.ensures.value c.set_cell.ensures.ok c.set_cell.ensures.err

pub returns-clause-ok : goal.returns-clause-ok
returns-clause-ok g c =
    let s = g.P.AsPage.SIZE in
    let full = g.met.P.AsPage.room in
    let v = g.P.Cells.cells in
    let n = c.self.inside.len in
    let ptrs = c.self.inside.pages.items in
    let h : c.args.id < n = omega (arith, length-items s full v n ptrs c.args.self.now c.self.invariant c.self.view_is, c.requires) in
    let p = c.place-page.result.0 in
    on_ok c.set_cell.result c.set_cell.ensures.ok (λ made. rw (← c.self.view_is) (kept-set s full v n ptrs p c.place-page.result.1 c.args.id c.index_mut.result.now c.set_cell.new.page c.args.cell c.self.invariant h c.place-page.ensures.at c.place-page.ensures.id c.index_mut.ensures.value made).cells_are)

pub returns-clause-err : goal.returns-clause-err
returns-clause-err g c =
    let s = g.P.AsPage.SIZE in
    let full = g.met.P.AsPage.room in
    let v = g.P.Cells.cells in
    let n = c.self.inside.len in
    let ptrs = c.self.inside.pages.items in
    let h : c.args.id < n = omega (arith, length-items s full v n ptrs c.args.self.now c.self.invariant c.self.view_is, c.requires) in
    let p = c.place-page.result.0 in
    let w = within s full v n ptrs c.args.id p c.self.invariant (omega (arith, c.place-page.ensures.id)) h in
    on_err_of c.set_cell.result c.set_cell.ensures.err (λ same. rw (← c.self.view_is) (kept-same s full v n ptrs p c.index_mut.result.now c.set_cell.new.page c.self.invariant w c.index_mut.ensures.value same).cells_are)
