use Rattle.std.proofs.Common.{◌≤◌, ◌++◌, ◌∷◌, [], List, length, ap, ◌∙◌, arith}
use Rattle.stm_store.specs.Naming.{Named}
use Rattle.stm_store.proofs.TableNames.{entry_at, fresh_name, held_kind, numbers_below, names_next}
use Rattle.stm_store.proofs.names.Names.of_table.Goals as goal

pub add-requires-clause-fresh : goal.add-requires-clause-fresh
add-requires-clause-fresh c =
    let e = entry_at c.args.table.now c.loop-id.id c.name.result.now c.kind.result c.name.ensures c.kind.ensures in
    rw c.loop-id.invariant (fresh_name c.args.table.now c.loop-id.id c.name.result.now c.kind.result c.len-id-end.ensures.table.declared e)

pub add-requires-clause-above : goal.add-requires-clause-above
add-requires-clause-above c =
    let l : c.loop-id.id ≤ length c.args.table.now = omega arith in
    rw c.loop-id.invariant (numbers_below c.args.table.now c.loop-id.id l)

pub add-requires-clause-held : goal.add-requires-clause-held
add-requires-clause-held c =
    let e = entry_at c.args.table.now c.loop-id.id c.name.result.now c.kind.result c.name.ensures c.kind.ensures in
    rw c.loop-id.invariant (held_kind c.args.table.now c.loop-id.id c.name.result.now c.kind.result c.len-id-end.ensures.table.declared e)

pub loop-id-preserved : goal.loop-id-preserved
loop-id-preserved c =
    let e = entry_at c.args.table.now c.loop-id.id c.name.result.now c.kind.result c.name.ensures c.kind.ensures in
    c.in_ok-add.ensures.done ∙ ap (λ (ns : List Named). ns ++ record { name = c.name.result.now; number = c.loop-id.id; kind = c.kind.result } ∷ []) c.loop-id.invariant
    ∙ names_next c.args.table.now c.loop-id.id c.name.result.now c.kind.result e
