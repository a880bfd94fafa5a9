use Rattle.std.proofs.Common.{◌≡◌, ◌≤◌, Bool, true, false, List, [], length, Err, sym, ap, subst, ◌∙◌, arith}
use Rattle.std.proofs.lemmas.Bool.{false≢true}
use Rattle.std.proofs.lemmas.List.{length-map, take_all}
use Rattle.std.proofs.lemmas.Result.{err_from_is_err_and}
use Rattle.stm_store.specs.declared.cell.Cell.{Cell}
use Rattle.stm_store.specs.declared.store.StoreError.{StoreError}
use Rattle.stm_store.specs.declared.store.StoreError.TheVariants.{NoMemory}
use Rattle.stm_store.specs.Cells.{IsStore, kinds_of, plain, plains}
use Rattle.stm_store.specs.FitsDecision.{making, news_fit}
use Rattle.stm_store.proofs.FitsDecided.{store_from, store_to}
use Rattle.stm_store.proofs.store.Store.of_cells.Goals as goal
use Rattle.stm_store.proofs.store.Store.of_cells.Goals.{then-len-gt-LIMIT-via-then-len-gt-LIMIT, then-len-gt-LIMIT-via-else-len-gt-LIMIT+then-not-are_typed}

-- the cells passed both tests
tested : (cells given : List Cell) (passed : Bool) → given ≡ cells → length cells ≤ 1000000 → passed ≡ news_fit (kinds_of (plains given)) (making []) (plains given) → passed ≡ true → IsStore (plains cells)
tested cells given passed same few test passes =
    store_from (plains cells) (simp length-map few)
    (subst (λ (cs : List Cell). news_fit (kinds_of (plains cs)) (making []) (plains cs) ≡ true) same (sym test ∙ passes))

pub returns-then-len-gt-LIMIT : goal.returns-then-len-gt-LIMIT
returns-then-len-gt-LIMIT c =
    let cells = c.args.cells.items in
    elim c.then-len-gt-LIMIT.branch [
      | then-len-gt-LIMIT-via-then-len-gt-LIMIT w ↦ λ k. let size = length-map cells plain in absurd (omega (arith, size, k.small, w.if-len-gt-LIMIT.true))
      | then-len-gt-LIMIT-via-else-len-gt-LIMIT+then-not-are_typed w ↦ λ k.
          let fails = sym w.are_typed.ensures ∙ w.if-not-are_typed.true in
          let refuted = subst (λ (cs : List Cell). news_fit (kinds_of (plains cs)) (making []) (plains cs) ≡ false) w.deref.ensures.value fails in
          false≢true (sym refuted ∙ store_to (plains cells) k)
    ]

pub returns-in_err-push : goal.returns-in_err-push
returns-in_err-push c =
    let p = err_from_is_err_and c.from_residual.result c.from_residual.ensures.1 in
    let memory : c.from_residual.result ≡ Err NoMemory = p.1 ∙ ap (λ (e : StoreError). Err e) p.2 in
    rw memory (tested c.args.cells.items c.deref.result.now c.are_typed.result c.deref.ensures.value (omega arith) c.are_typed.ensures c.if-not-are_typed.false)

pub invariant_of-result : goal.invariant_of-result
invariant_of-result c =
    let items = c.deref-cell-items.result.now in
    let past : length items ≤ c.loop-cell.cell-index = omega arith in
    let whole : c.loop-cell.list ≡ c.args.cells.items = c.loop-cell.invariant ∙ take_all c.loop-cell.cell-index items past ∙ c.deref-cell-items.ensures.value in
    rw whole (tested c.args.cells.items c.deref.result.now c.are_typed.result c.deref.ensures.value (omega arith) c.are_typed.ensures c.if-not-are_typed.false)
