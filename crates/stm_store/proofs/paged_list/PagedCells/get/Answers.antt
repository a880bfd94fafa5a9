use Rattle.std.proofs.Common.{◌<◌, arith, ap, length}
use Rattle.stm_store.specs.Pages.{contents_by}
use Rattle.stm_store.proofs.PageLists.{length-items, within, page_at, get_content, get_flatten}
use Rattle.stm_store.proofs.paged_list.PagedCells.get.Goals as goal

pub index-requires : goal.index-requires
index-requires g c =
    let s = g.P.AsPage.SIZE in
    let full = g.met.P.AsPage.room in
    let v = g.P.Cells.cells in
    let n = c.self.inside.len in
    let ptrs = c.self.inside.pages.items in
    let h : c.args.id < n = omega (arith, length-items s full v n ptrs c.args.self.now c.self.invariant c.self.view_is, c.requires) in
    let p = c.place-page.result.0 in
    let w = within s full v n ptrs c.args.id p c.self.invariant (omega (arith, c.place-page.ensures.id)) h in
    omega (arith, w)

pub get-requires : goal.get-requires
get-requires g c =
    let s = g.P.AsPage.SIZE in
    let full = g.met.P.AsPage.room in
    let v = g.P.Cells.cells in
    let n = c.self.inside.len in
    let ptrs = c.self.inside.pages.items in
    let h : c.args.id < n = omega (arith, length-items s full v n ptrs c.args.self.now c.self.invariant c.self.view_is, c.requires) in
    let p = c.place-page.result.0 in
    let w = within s full v n ptrs c.args.id p c.self.invariant (omega (arith, c.place-page.ensures.id)) h in
    let l = page_at s full v n ptrs p c.index.result.now c.self.invariant w c.index.ensures in
    omega (arith, ap (λ (x : _). length (v x)) c.deref-page.ensures, l, c.place-page.ensures.id, c.place-page.ensures.at)

pub returns : goal.returns
returns g c =
    let s = g.P.AsPage.SIZE in
    let full = g.met.P.AsPage.room in
    let v = g.P.Cells.cells in
    let n = c.self.inside.len in
    let ptrs = c.self.inside.pages.items in
    let h : c.args.id < n = omega (arith, length-items s full v n ptrs c.args.self.now c.self.invariant c.self.view_is, c.requires) in
    let p = c.place-page.result.0 in
    let w = within s full v n ptrs c.args.id p c.self.invariant (omega (arith, c.place-page.ensures.id)) h in
    let q = get_content v ptrs p c.index.result.now w c.index.ensures in
    let found = get_flatten s full n (contents_by v ptrs) p c.place-page.result.1 c.args.id c.self.invariant h c.place-page.ensures.at c.place-page.ensures.id in
    rw (← c.self.view_is, found, ← q, ← c.deref-page.ensures) c.get.ensures
