use Rattle.std.proofs.Common.{◌≡◌, ◌-◌, ◌+◌, ◌≤◌, ◌++◌, ◌∷◌, [], List, length, take, sym, ap, ◌∙◌, arith}
use Rattle.std.proofs.lemmas.List.{take_all}
use Rattle.std.proofs.lemmas.Result.{on_ok_weaker}
use Rattle.stm_store.specs.Naming.{Named, named_in_table}
use Rattle.stm_store.proofs.TableNames.{entry_at, fresh_name, held_kind, numbers_below, names_next}
use Rattle.stm_script.proofs.variables.add_last.Goals as goal

pub add-requires-clause-fresh : goal.add-requires-clause-fresh
add-requires-clause-fresh c =
    let e = entry_at c.args.table.now (c.len.result - 1) c.name.result.now c.kind.result c.name.ensures c.kind.ensures in
    rw (c.requires.others, sym c.len.ensures.len) (fresh_name c.args.table.now (c.len.result - 1) c.name.result.now c.kind.result c.len.ensures.table.declared e)

pub add-requires-clause-above : goal.add-requires-clause-above
add-requires-clause-above c =
    let within : c.len.result - 1 ≤ length c.args.table.now = omega arith in
    rw (c.requires.others, sym c.len.ensures.len) (numbers_below c.args.table.now (c.len.result - 1) within)

pub add-requires-clause-held : goal.add-requires-clause-held
add-requires-clause-held c =
    let e = entry_at c.args.table.now (c.len.result - 1) c.name.result.now c.kind.result c.name.ensures c.kind.ensures in
    rw (c.requires.others, sym c.len.ensures.len) (held_kind c.args.table.now (c.len.result - 1) c.name.result.now c.kind.result c.len.ensures.table.declared e)

pub returns : goal.returns
returns c =
    let e = entry_at c.args.table.now (c.len.result - 1) c.name.result.now c.kind.result c.name.ensures c.kind.ensures in
    let others : c.args.names.now ≡ named_in_table (take (c.len.result - 1) c.args.table.now) = rw c.len.ensures.len c.requires.others in
    let all : take (c.len.result - 1 + 1) c.args.table.now ≡ c.args.table.now = take_all _ _ (omega arith) in
    on_ok_weaker c.add.result (λ is.
    is ∙ ap (λ (ns : List Named). ns ++ record { name = c.name.result.now; number = c.len.result - 1; kind = c.kind.result } ∷ []) others
    ∙ names_next c.args.table.now (c.len.result - 1) c.name.result.now c.kind.result e ∙ ap named_in_table all) c.add.ensures.done
