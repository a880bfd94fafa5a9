use Rattle.std.proofs.Common.{lit<, ◌≡◌, ℕ, ◌+◌, ◌-◌, ◌*◌, ◌⊎◌, inl, inr, List, ◌∷◌, ◌++◌, length, take, drop, get_or, refl, sym, ap, ◌∙◌, pos, arith, length-append, append_assoc}
use Rattle.std.specs.Arc.{arc_value}
use Rattle.std.specs.Result.{is_ok}
use Rattle.stm_terms.specs.declared.values.Value.{Value}
use Rattle.stm_terms.specs.declared.values.Value.TheVariants.{Int}
use Rattle.stm_store.specs.declared.cell.Cell.{Cell}
use Rattle.stm_store.specs.Pages.{contents, flatten}
use Rattle.stm_store.specs.RangeWrites.{with_writes_from}
use Rattle.stm_store.proofs.PageLists.{on_ok, on_err_of, length-flatten, vec-sizes, vec-pages}
use Rattle.stm_store.proofs.FirstPage.{first_page}
use Rattle.stm_store.proofs.PageListSplit.{cut, parted-set, grouped}
use Rattle.stm_store.proofs.RangeWriteLemmas.{some_writes, before, from_first_write, first_write, starts_below, before_few, some_before, first_within, others_within, length-writes_from, writes_both, written_behind}
use Rattle.stm_store.proofs.in_place.+write.Goals as goal

either : {P : Type 0} → P ⊎ P → P
either (inl p) = p
either (inr p) = p

abbrev d : ℕ × Value
d = (0, Int (pos 0))

-- ---- a page
pub write_page-split_at-requires : goal.write_page-split_at-requires
write_page-split_at-requires t c = rw c.writes_below.ensures (before_few (c.args.first + c.len.result) c.args.writes.now)

pub write_page-write_pages-requires : goal.write_page-write_pages-requires
write_page-write_pages-requires t c =
    let ws = c.args.writes.now in
    let size : c.len.result ≡ length (arc_value c.args.page.now) = c.len.ensures ∙ ap length (either c.in_ok-page.ensures.value) in
    let b = c.args.first + length (arc_value c.args.page.now) in
    let count : c.writes_below.result ≡ before b ws = rw size at c.writes_below.ensures in
    let some = some_before b ws c.requires.here in
    let paged = c.requires.pages in
    let same : c.args.end - b ≡ c.args.end - c.args.first - 64 = omega (arith, paged.1) in
    rw size (
      omega (arith, c.split_at.ensures.back_len, c.decreases),
      (omega (arith, paged.1), (rw same paged.2, (c.requires.parts, rw (c.split_at.ensures.back, count) (others_within c.args.len c.args.first b _ ws c.requires.writes)))),
    )

pub write_page-write-requires : goal.write_page-write-requires
write_page-write-requires t c =
    let ws = c.args.writes.now in
    let page = either c.in_ok-page.ensures.value in
    let size : c.len.result ≡ length (arc_value c.args.page.now) = c.len.ensures ∙ ap length page in
    let b = c.args.first + length (arc_value c.args.page.now) in
    let count : c.writes_below.result ≡ before b ws = rw size at c.writes_below.ensures in
    rw (page, c.split_at.ensures.front, count) (first_within c.args.len c.args.first b _ ws c.requires.writes)

pub write_page-returns-clause-ok : goal.write_page-returns-clause-ok
write_page-returns-clause-ok t c =
    let n = c.args.len in
    let ws = c.args.writes.now in
    let p = arc_value c.args.page.now in
    let page = either c.in_ok-page.ensures.value in
    let size : c.len.result ≡ length p = c.len.ensures ∙ ap length page in
    let b = c.args.first + length p in
    let count : c.writes_below.result ≡ before b ws = rw size at c.writes_below.ensures in
    let rest = flatten (contents c.args.pages.now) ++ flatten (contents c.args.parts.now) in
    let here : c.write.new.self ≡ with_writes_from n c.args.first (take (before b ws) ws) p = c.write.ensures ∙ rw (page, c.split_at.ensures.front, count) refl in
    let behind : flatten (contents c.write_pages.new.pages) ++ flatten (contents c.write_pages.new.parts) ≡ with_writes_from n b (drop (before b ws) ws) rest = c.in_ok-write_pages.ensures.ok ∙ rw (size, c.split_at.ensures.back, count) refl in
    let left = c.make_mut.follows.holds c.write.new.self (ap is_ok c.in_ok-page.was) ∙ here in
    rw (left, behind) (sym (writes_both n c.args.first b _ ws p rest c.requires.writes refl))

pub write_page-returns-clause-size : goal.write_page-returns-clause-size
write_page-returns-clause-size t c =
    let page = either c.in_ok-page.ensures.value in
    ap length (c.make_mut.follows.holds c.write.new.self (ap is_ok c.in_ok-page.was) ∙ c.write.ensures ∙ ap (with_writes_from c.args.len c.args.first c.split_at.result.0.now) page)
    ∙ length-writes_from c.args.len c.args.first c.split_at.result.0.now (arc_value c.args.page.now)

-- ---- pages, and the parts after them
pub write_pages-split_at_mut-others-requires : goal.write_pages-split_at_mut-others-requires
write_pages-split_at_mut-others-requires t c =
    let ws = c.args.writes.now in
    let some = some_writes ws c.if-is_empty.ensures in
    let m = c.args.end - c.args.first in
    let k = c.place-skipped.result.0 in
    let f = first_page 64 c.args.len c.args.first m k c.place-skipped.result.1 _ c.args.pages.now ws d (lit< tt) c.requires.pages c.requires.writes some (omega (arith, c.if-id-end.true, c.requires.order)) c.place-skipped.ensures.id c.place-skipped.ensures.at in
    omega (arith, f.there)

pub write_pages-split_at_mut-here-requires : goal.write_pages-split_at_mut-here-requires
write_pages-split_at_mut-here-requires t c =
    let ws = c.args.writes.now in
    let some = some_writes ws c.if-is_empty.ensures in
    let m = c.args.end - c.args.first in
    let k = c.place-skipped.result.0 in
    let f = first_page 64 c.args.len c.args.first m k c.place-skipped.result.1 _ c.args.pages.now ws d (lit< tt) c.requires.pages c.requires.writes some (omega (arith, c.if-id-end.true, c.requires.order)) c.place-skipped.ensures.id c.place-skipped.ensures.at in
    omega (arith, f.there, c.split_at_mut-others.ensures.back_len)

pub write_pages-write_page-requires : goal.write_pages-write_page-requires
write_pages-write_page-requires t c =
    let ws = c.args.writes.now in
    let some = some_writes ws c.if-is_empty.ensures in
    let m = c.args.end - c.args.first in
    let k = c.place-skipped.result.0 in
    let f = first_page 64 c.args.len c.args.first m k c.place-skipped.result.1 _ c.args.pages.now ws d (lit< tt) c.requires.pages c.requires.writes some (omega (arith, c.if-id-end.true, c.requires.order)) c.place-skipped.ensures.id c.place-skipped.ensures.at in
    let others = c.split_at_mut-others in
    let here = c.split_at_mut-here in
    let u = cut 64 (lit< tt) m k c.args.pages.now others.result.0.now others.result.1.now here.result.0.now here.result.1.now c.index-here-0.result c.requires.pages others.ensures.value others.ensures.front_len here.ensures.value here.ensures.front_len in
    let x = (get_or ws 0 d).0 - c.place-skipped.result.1 in
    let same : c.args.end - x ≡ m - 64 * k = omega (arith, f.starts) in (
      omega (arith, c.decreases),
      (omega (arith, f.starts, u.less), (rw same u.pages, (c.requires.parts, (f.writes, starts_below _ ws d some (omega (arith, f.below, u.pages.1)))))),
    )

pub write_pages-returns-then-id-end-clause-ok : goal.write_pages-returns-then-id-end-clause-ok
write_pages-returns-then-id-end-clause-ok t c =
    let ws = c.args.writes.now in
    let some = some_writes ws c.if-is_empty.ensures in
    let m = c.args.end - c.args.first in
    let k = c.place-skipped.result.0 in
    let f = first_page 64 c.args.len c.args.first m k c.place-skipped.result.1 _ c.args.pages.now ws d (lit< tt) c.requires.pages c.requires.writes some (omega (arith, c.if-id-end.true, c.requires.order)) c.place-skipped.ensures.id c.place-skipped.ensures.at in
    let others = c.split_at_mut-others in
    let here = c.split_at_mut-here in
    let u = cut 64 (lit< tt) m k c.args.pages.now others.result.0.now others.result.1.now here.result.0.now here.result.1.now c.index-here-0.result c.requires.pages others.ensures.value others.ensures.front_len here.ensures.value here.ensures.front_len in
    let front = flatten (contents others.result.0.now) in
    let p = arc_value (get_or here.result.0.now 0 c.index-here-0.result) in
    let behind = flatten (contents here.result.1.now) in
    let more = flatten (contents c.args.parts.now) in
    let old : flatten (contents c.args.pages.now) ++ more ≡ front ++ (p ++ (behind ++ more)) = rw u.whole (grouped front p behind more) in
    let q = arc_value c.write_page.new.page in
    let after = flatten (contents c.write_page.new.pages) in
    let beyond = flatten (contents c.write_page.new.parts) in
    let new = ap (λ (l : List Cell). l ++ beyond) (parted-set others.result.0.now here.result.0.now c.write_page.new.page c.write_page.new.pages here.ensures.front_len) ∙ grouped front q after beyond in
    on_ok c.write_page.result c.write_page.ensures.ok (λ e. written_behind c.args.len c.args.first _ _ ws front (p ++ (behind ++ more)) (q ++ (after ++ beyond)) _ _
    f.writes (omega (arith, u.long, f.starts)) old new e)

pub write_pages-returns-then-id-end-clause-err : goal.write_pages-returns-then-id-end-clause-err
write_pages-returns-then-id-end-clause-err t c =
    let others = c.split_at_mut-others in
    let here = c.split_at_mut-here in
    let u = cut 64 (lit< tt) (c.args.end - c.args.first) c.place-skipped.result.0 c.args.pages.now others.result.0.now others.result.1.now here.result.0.now here.result.1.now c.index-here-0.result c.requires.pages others.ensures.value others.ensures.front_len here.ensures.value here.ensures.front_len in
    let front = flatten (contents others.result.0.now) in
    let p = arc_value (get_or here.result.0.now 0 c.index-here-0.result) in
    let behind = flatten (contents here.result.1.now) in
    let more = flatten (contents c.args.parts.now) in
    let old : flatten (contents c.args.pages.now) ++ more ≡ front ++ (p ++ (behind ++ more)) = rw u.whole (grouped front p behind more) in
    let q = arc_value c.write_page.new.page in
    let after = flatten (contents c.write_page.new.pages) in
    let beyond = flatten (contents c.write_page.new.parts) in
    let new = ap (λ (l : List Cell). l ++ beyond) (parted-set others.result.0.now here.result.0.now c.write_page.new.page c.write_page.new.pages here.ensures.front_len) ∙ grouped front q after beyond in
    on_err_of c.write_page.result c.write_page.ensures.err (λ e. new ∙ ap (λ (l : List Cell). front ++ l) e ∙ sym old)

pub write_pages-split_at_mut-others-requires-else-id-end : goal.write_pages-split_at_mut-others-requires-else-id-end
write_pages-split_at_mut-others-requires-else-id-end t c =
    let ws = c.args.writes.now in
    let some = some_writes ws c.if-is_empty.ensures in
    let m = length (flatten (contents c.args.parts.now)) in
    let k = c.place-skipped-else-id-end.result.0 in
    let rest = from_first_write c.args.len c.args.first c.args.end _ ws d c.requires.writes c.if-id-end.false in
    let f = first_page 4096 c.args.len c.args.end m k c.place-skipped-else-id-end.result.1 _ c.args.parts.now ws d (lit< tt) c.requires.parts rest some (first_write c.args.len c.args.end _ ws d rest some).1 c.place-skipped-else-id-end.ensures.id c.place-skipped-else-id-end.ensures.at in
    omega (arith, f.there)

pub write_pages-split_at_mut-here-requires-else-id-end : goal.write_pages-split_at_mut-here-requires-else-id-end
write_pages-split_at_mut-here-requires-else-id-end t c =
    let ws = c.args.writes.now in
    let some = some_writes ws c.if-is_empty.ensures in
    let m = length (flatten (contents c.args.parts.now)) in
    let k = c.place-skipped-else-id-end.result.0 in
    let rest = from_first_write c.args.len c.args.first c.args.end _ ws d c.requires.writes c.if-id-end.false in
    let f = first_page 4096 c.args.len c.args.end m k c.place-skipped-else-id-end.result.1 _ c.args.parts.now ws d (lit< tt) c.requires.parts rest some (first_write c.args.len c.args.end _ ws d rest some).1 c.place-skipped-else-id-end.ensures.id c.place-skipped-else-id-end.ensures.at in
    omega (arith, f.there, c.split_at_mut-others-else-id-end.ensures.back_len)

pub write_pages-write_part-requires : goal.write_pages-write_part-requires
write_pages-write_part-requires t c =
    let ws = c.args.writes.now in
    let some = some_writes ws c.if-is_empty.ensures in
    let m = length (flatten (contents c.args.parts.now)) in
    let k = c.place-skipped-else-id-end.result.0 in
    let rest = from_first_write c.args.len c.args.first c.args.end _ ws d c.requires.writes c.if-id-end.false in
    let f = first_page 4096 c.args.len c.args.end m k c.place-skipped-else-id-end.result.1 _ c.args.parts.now ws d (lit< tt) c.requires.parts rest some (first_write c.args.len c.args.end _ ws d rest some).1 c.place-skipped-else-id-end.ensures.id c.place-skipped-else-id-end.ensures.at in
    let others = c.split_at_mut-others-else-id-end in
    let here = c.split_at_mut-here-else-id-end in
    let u = cut 4096 (lit< tt) m k c.args.parts.now others.result.0.now others.result.1.now here.result.0.now here.result.1.now c.index-here-0-else-id-end.result c.requires.parts others.ensures.value others.ensures.front_len here.ensures.value here.ensures.front_len in
    let p = arc_value (get_or here.result.0.now 0 c.index-here-0-else-id-end.result) in
    let x = (get_or ws 0 d).0 - c.place-skipped-else-id-end.result.1 in
    let count : length (p ++ flatten (contents here.result.1.now)) ≡ m - 4096 * k = length-flatten 4096 (lit< tt) (m - 4096 * k) (p ∷ contents here.result.1.now) u.pages in
    let top : x + length (p ++ flatten (contents here.result.1.now)) ≡ c.args.end + m = omega (arith, count, u.less, f.starts) in (
      omega (arith, c.decreases, others.ensures.back_len, here.ensures.back_len),
      (rw count u.pages, (rw top f.writes, (starts_below _ ws d some (omega (arith, f.below, u.pages.1)), omega (arith, u.pages.1)))),
    )

pub write_pages-returns-else-id-end-clause-ok : goal.write_pages-returns-else-id-end-clause-ok
write_pages-returns-else-id-end-clause-ok t c =
    let ws = c.args.writes.now in
    let some = some_writes ws c.if-is_empty.ensures in
    let m = length (flatten (contents c.args.parts.now)) in
    let k = c.place-skipped-else-id-end.result.0 in
    let rest = from_first_write c.args.len c.args.first c.args.end _ ws d c.requires.writes c.if-id-end.false in
    let f = first_page 4096 c.args.len c.args.end m k c.place-skipped-else-id-end.result.1 _ c.args.parts.now ws d (lit< tt) c.requires.parts rest some (first_write c.args.len c.args.end _ ws d rest some).1 c.place-skipped-else-id-end.ensures.id c.place-skipped-else-id-end.ensures.at in
    let others = c.split_at_mut-others-else-id-end in
    let here = c.split_at_mut-here-else-id-end in
    let u = cut 4096 (lit< tt) m k c.args.parts.now others.result.0.now others.result.1.now here.result.0.now here.result.1.now c.index-here-0-else-id-end.result c.requires.parts others.ensures.value others.ensures.front_len here.ensures.value here.ensures.front_len in
    let all = flatten (contents c.args.pages.now) in
    let front = flatten (contents others.result.0.now) in
    let p = arc_value (get_or here.result.0.now 0 c.index-here-0-else-id-end.result) in
    let behind = flatten (contents here.result.1.now) in
    let old : all ++ flatten (contents c.args.parts.now) ≡ (all ++ front) ++ (p ++ behind) = rw u.whole (sym (append_assoc all front (p ++ behind))) in
    let q = arc_value c.write_part.new.part in
    let after = flatten (contents c.write_part.new.parts) in
    let new = ap (λ (l : List Cell). all ++ l) (parted-set others.result.0.now here.result.0.now c.write_part.new.part c.write_part.new.parts here.ensures.front_len) ∙ sym (append_assoc all front (q ++ after)) in
    let long = length-flatten 64 (lit< tt) (c.args.end - c.args.first) (contents c.args.pages.now) c.requires.pages in
    on_ok c.write_part.result c.write_part.ensures.ok (λ e. written_behind c.args.len c.args.first _ _ ws (all ++ front) (p ++ behind) (q ++ after) _ _
    f.writes (omega (arith, length-append all front, long, u.long, c.requires.order, f.starts)) old new e)

pub write_pages-returns-else-id-end-clause-err : goal.write_pages-returns-else-id-end-clause-err
write_pages-returns-else-id-end-clause-err t c =
    let others = c.split_at_mut-others-else-id-end in
    let here = c.split_at_mut-here-else-id-end in
    let u = cut 4096 (lit< tt) (length (flatten (contents c.args.parts.now))) c.place-skipped-else-id-end.result.0 c.args.parts.now others.result.0.now others.result.1.now here.result.0.now here.result.1.now c.index-here-0-else-id-end.result c.requires.parts others.ensures.value others.ensures.front_len here.ensures.value here.ensures.front_len in
    let all = flatten (contents c.args.pages.now) in
    let front = flatten (contents others.result.0.now) in
    let p = arc_value (get_or here.result.0.now 0 c.index-here-0-else-id-end.result) in
    let behind = flatten (contents here.result.1.now) in
    let old : all ++ flatten (contents c.args.parts.now) ≡ (all ++ front) ++ (p ++ behind) = rw u.whole (sym (append_assoc all front (p ++ behind))) in
    let q = arc_value c.write_part.new.part in
    let after = flatten (contents c.write_part.new.parts) in
    let new = ap (λ (l : List Cell). all ++ l) (parted-set others.result.0.now here.result.0.now c.write_part.new.part c.write_part.new.parts here.ensures.front_len) ∙ sym (append_assoc all front (q ++ after)) in
    on_err_of c.write_part.result c.write_part.ensures.err (λ e. new ∙ ap (λ (l : List Cell). (all ++ front) ++ l) e ∙ sym old)

-- ---- a part
pub write_part-overflow_add-end : goal.write_part-overflow_add-end
write_part-overflow_add-end t c =
    let long = length-flatten 64 (lit< tt) c.part.inside.len (contents c.part.inside.pages.items) c.part.invariant in
    let is = c.part.view_is ∙ either c.in_ok-part.ensures.value in
    omega (arith, long, ap length is, c.requires.room)

pub write_part-write_pages-requires : goal.write_part-write_pages-requires
write_part-write_pages-requires t c =
    let long = length-flatten 64 (lit< tt) c.part.inside.len (contents c.part.inside.pages.items) c.part.invariant in
    let is = c.part.view_is ∙ either c.in_ok-part.ensures.value in
    let p = arc_value c.args.part.now in
    let behind = flatten (contents c.args.parts.now) in
    let paged = c.requires.parts in
    let count = length-flatten 4096 (lit< tt) (length (p ++ behind) - 4096) (contents c.args.parts.now) paged.2 in
    let same : c.args.first + c.part.inside.len - c.args.first ≡ c.part.inside.len = omega arith in
    let top : c.args.first + c.part.inside.len + length behind ≡ c.args.first + length (p ++ behind) = omega (arith, long, ap length is, length-append p behind) in (
      omega (arith, c.decreases),
      (omega arith, (rw (same, c.as_mut_slice.ensures.value) c.part.invariant, (rw count paged.2, rw top c.requires.writes))),
    )

pub write_part-invariant_of-part : goal.write_part-invariant_of-part
write_part-invariant_of-part t c =
    vec-sizes 64 (lit< tt) c.part.inside.len c.part.inside.pages c.write_pages.new.pages c.part.invariant (rw (← c.as_mut_slice.ensures.value) c.write_pages.ensures.sizes)

pub write_part-returns-clause-size : goal.write_part-returns-clause-size
write_part-returns-clause-size t c =
    let kept = vec-sizes 64 (lit< tt) c.part.inside.len c.part.inside.pages c.write_pages.new.pages c.part.invariant (rw (← c.as_mut_slice.ensures.value) c.write_pages.ensures.sizes) in
    let long = length-flatten 64 (lit< tt) c.part.inside.len (contents c.part.inside.pages.items) c.part.invariant in
    let is = c.part.view_is ∙ either c.in_ok-part.ensures.value in
    ap length (c.make_mut.follows.holds _ (ap is_ok c.in_ok-part.was)) ∙ length-flatten 64 (lit< tt) c.part.inside.len _ kept ∙ sym long ∙ ap length is

pub write_part-returns-clause-ok : goal.write_part-returns-clause-ok
write_part-returns-clause-ok t c =
    let behind = flatten (contents c.args.parts.now) in
    let beyond = flatten (contents c.write_pages.new.parts) in
    let same = vec-pages c.part.inside.pages c.write_pages.new.pages (rw (← c.as_mut_slice.ensures.value) c.write_pages.ensures.sizes) in
    let new = c.make_mut.follows.holds _ (ap is_ok c.in_ok-part.was) ∙ ap flatten same in
    let old : flatten (contents c.as_mut_slice.result.now) ≡ arc_value c.args.part.now = ap (λ (l : _). flatten (contents l)) c.as_mut_slice.ensures.value ∙ c.part.view_is ∙ either c.in_ok-part.ensures.value in
    on_ok c.write_pages.result c.write_pages.ensures.ok (λ e. ap (λ (l : List Cell). l ++ beyond) new ∙ e ∙ ap (λ (l : List Cell). with_writes_from c.args.len c.args.first c.args.writes.now (l ++ behind)) old)

pub write_part-returns-clause-err : goal.write_part-returns-clause-err
write_part-returns-clause-err t c =
    let behind = flatten (contents c.args.parts.now) in
    let beyond = flatten (contents c.write_pages.new.parts) in
    let same = vec-pages c.part.inside.pages c.write_pages.new.pages (rw (← c.as_mut_slice.ensures.value) c.write_pages.ensures.sizes) in
    let new = c.make_mut.follows.holds _ (ap is_ok c.in_ok-part.was) ∙ ap flatten same in
    let old : flatten (contents c.as_mut_slice.result.now) ≡ arc_value c.args.part.now = ap (λ (l : _). flatten (contents l)) c.as_mut_slice.ensures.value ∙ c.part.view_is ∙ either c.in_ok-part.ensures.value in
    on_err_of c.write_pages.result c.write_pages.ensures.err (λ e. ap (λ (l : List Cell). l ++ beyond) new ∙ e ∙ ap (λ (l : List Cell). l ++ behind) old)
