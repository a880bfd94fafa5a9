use Rattle.std.proofs.Common.{◌≤◌, ◌∷◌, [], length, arith, length-append}
use Rattle.stm_store.proofs.Opening.{opened-next, opened-whole, opened_store}
use Rattle.stm_store.proofs.store.Store.open.Goals as goal

pub loop-id-preserved : goal.loop-id-preserved
loop-id-preserved c = rw c.in_ok-push.ensures.ok (record {
  cells = opened-next c.loop-id.cells c.args.table.now c.loop-id.id c.kind.result c.value.result c.loop-id.invariant.cells c.kind.ensures c.value.ensures;
  length = omega (arith, length-append c.loop-id.cells (record { kind = c.kind.result; value = c.value.result; count = 0 } ∷ []), c.loop-id.invariant.length);
})

pub invariant_of-result : goal.invariant_of-result
invariant_of-result c =
    let t = c.args.table.now in
    let h : length t ≤ c.loop-id.id = omega arith in
    let i = c.len-id-end.ensures.table in
    rw (opened-whole c.loop-id.cells t c.loop-id.id c.loop-id.invariant.cells h) (opened_store t i.small i.typed i.low)
