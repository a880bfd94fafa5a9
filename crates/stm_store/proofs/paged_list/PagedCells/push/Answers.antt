use Rattle.std.proofs.Common.{◌≡◌, ◌*◌, ◌<◌, arith, ap, ◌∙◌}
use Rattle.stm_store.proofs.PageLists.{length-items, page_at, kept-same, on_err, kept-extend, kept-push, last_within}
use Rattle.stm_store.proofs.paged_list.PagedCells.push.Goals as goal

pub overflow_add-self : goal.overflow_add-self
overflow_add-self g c =
    let s = g.P.AsPage.SIZE in
    let full = g.met.P.AsPage.room in
    let v = g.P.Cells.cells in
    let n = c.self.inside.len in
    let ptrs = c.self.inside.pages.items in
    let l = length-items s full v n ptrs c.args.self.now c.self.invariant c.self.view_is in
    omega arith

pub invariant_of-self-then-at-eq0 : goal.invariant_of-self-then-at-eq0
invariant_of-self-then-at-eq0 g c =
    let s = g.P.AsPage.SIZE in
    let full = g.met.P.AsPage.room in
    let v = g.P.Cells.cells in
    let n = c.self.inside.len in
    let ptrs = c.self.inside.pages.items in
    let p = c.place-last.result.0 in
    let last = c.place-last.result.1 in
    let is : n ≡ s * p = omega (arith, c.place-last.ensures.id) in
    let k = kept-push s full v n ptrs p c.in_ok-page.page c.args.cell c.self.invariant is (ap v c.in_ok-page.ensures.ok ∙ c.in_ok-of.ensures) in
    rw c.in_ok-push.ensures.items k.pages

pub returns-in_ok-push-clause-ok : goal.returns-in_ok-push-clause-ok
returns-in_ok-push-clause-ok g c =
    let s = g.P.AsPage.SIZE in
    let full = g.met.P.AsPage.room in
    let v = g.P.Cells.cells in
    let n = c.self.inside.len in
    let ptrs = c.self.inside.pages.items in
    let p = c.place-last.result.0 in
    let last = c.place-last.result.1 in
    let is : n ≡ s * p = omega (arith, c.place-last.ensures.id) in
    let k = kept-push s full v n ptrs p c.in_ok-page.page c.args.cell c.self.invariant is (ap v c.in_ok-page.ensures.ok ∙ c.in_ok-of.ensures) in
    rw (← c.self.view_is, c.in_ok-push.ensures.items) k.cells_are

pub index_mut-requires : goal.index_mut-requires
index_mut-requires g c =
    let s = g.P.AsPage.SIZE in
    let full = g.met.P.AsPage.room in
    let v = g.P.Cells.cells in
    let n = c.self.inside.len in
    let ptrs = c.self.inside.pages.items in
    let p = c.place-last.result.0 in
    let last = c.place-last.result.1 in
    let some : 0 < last = omega arith in
    let w = last_within s full v n ptrs p last c.self.invariant c.place-last.ensures.id some in
    omega (arith, w)

pub push_cell-requires : goal.push_cell-requires
push_cell-requires g c =
    let s = g.P.AsPage.SIZE in
    let full = g.met.P.AsPage.room in
    let v = g.P.Cells.cells in
    let n = c.self.inside.len in
    let ptrs = c.self.inside.pages.items in
    let p = c.place-last.result.0 in
    let last = c.place-last.result.1 in
    let some : 0 < last = omega arith in
    let w = last_within s full v n ptrs p last c.self.invariant c.place-last.ensures.id some in
    let l = length-items s full v n ptrs c.args.self.now c.self.invariant c.self.view_is in
    let size = page_at s full v n ptrs p c.index_mut.result.now c.self.invariant w c.index_mut.ensures.value in
    omega (arith, size)

pub invariant_of-self-in_err-push_cell : goal.invariant_of-self-in_err-push_cell
invariant_of-self-in_err-push_cell g c =
    let s = g.P.AsPage.SIZE in
    let full = g.met.P.AsPage.room in
    let v = g.P.Cells.cells in
    let n = c.self.inside.len in
    let ptrs = c.self.inside.pages.items in
    let p = c.place-last.result.0 in
    let last = c.place-last.result.1 in
    let some : 0 < last = omega arith in
    let w = last_within s full v n ptrs p last c.self.invariant c.place-last.ensures.id some in
    let k = kept-same s full v n ptrs p c.index_mut.result.now c.push_cell.new.page c.self.invariant w c.index_mut.ensures.value c.in_err-push_cell.ensures.err in
    k.pages

pub returns-in_err-push_cell-clause-err : goal.returns-in_err-push_cell-clause-err
returns-in_err-push_cell-clause-err g c =
    let s = g.P.AsPage.SIZE in
    let full = g.met.P.AsPage.room in
    let v = g.P.Cells.cells in
    let n = c.self.inside.len in
    let ptrs = c.self.inside.pages.items in
    let p = c.place-last.result.0 in
    let last = c.place-last.result.1 in
    let some : 0 < last = omega arith in
    let w = last_within s full v n ptrs p last c.self.invariant c.place-last.ensures.id some in
    let k = kept-same s full v n ptrs p c.index_mut.result.now c.push_cell.new.page c.self.invariant w c.index_mut.ensures.value c.in_err-push_cell.ensures.err in
    on_err c.from_residual-in_err-push_cell.result (rw (← c.self.view_is) k.cells_are)

pub overflow_add-self-else-at-eq0 : goal.overflow_add-self-else-at-eq0
overflow_add-self-else-at-eq0 g c =
    let s = g.P.AsPage.SIZE in
    let full = g.met.P.AsPage.room in
    let v = g.P.Cells.cells in
    let n = c.self.inside.len in
    let ptrs = c.self.inside.pages.items in
    let l = length-items s full v n ptrs c.args.self.now c.self.invariant c.self.view_is in
    omega arith

pub invariant_of-self-else-at-eq0 : goal.invariant_of-self-else-at-eq0
invariant_of-self-else-at-eq0 g c =
    let s = g.P.AsPage.SIZE in
    let full = g.met.P.AsPage.room in
    let v = g.P.Cells.cells in
    let n = c.self.inside.len in
    let ptrs = c.self.inside.pages.items in
    let p = c.place-last.result.0 in
    let last = c.place-last.result.1 in
    let some : 0 < last = omega arith in
    let w = last_within s full v n ptrs p last c.self.invariant c.place-last.ensures.id some in
    let k = kept-extend s full v n ptrs p last c.index_mut.result.now c.push_cell.new.page c.args.cell c.self.invariant c.place-last.ensures.id some c.place-last.ensures.at w c.index_mut.ensures.value c.in_ok-push_cell.ensures.ok in
    k.pages

pub returns-in_ok-push_cell-clause-ok : goal.returns-in_ok-push_cell-clause-ok
returns-in_ok-push_cell-clause-ok g c =
    let s = g.P.AsPage.SIZE in
    let full = g.met.P.AsPage.room in
    let v = g.P.Cells.cells in
    let n = c.self.inside.len in
    let ptrs = c.self.inside.pages.items in
    let p = c.place-last.result.0 in
    let last = c.place-last.result.1 in
    let some : 0 < last = omega arith in
    let w = last_within s full v n ptrs p last c.self.invariant c.place-last.ensures.id some in
    let k = kept-extend s full v n ptrs p last c.index_mut.result.now c.push_cell.new.page c.args.cell c.self.invariant c.place-last.ensures.id some c.place-last.ensures.at w c.index_mut.ensures.value c.in_ok-push_cell.ensures.ok in
    rw (← c.self.view_is) k.cells_are
