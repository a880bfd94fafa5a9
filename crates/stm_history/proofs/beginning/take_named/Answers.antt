use Rattle.std.proofs.Common.{◌≡◌, ◌∙◌, ◌++◌, ◌∷◌, [], ℕ, List, rules, length, vec_len, ap, sym, subst}
use Rattle.std.specs.Prelude.{option_map, string_bytes}
use Rattle.stm_store.specs.declared.cell.Cell.{Cell}
use Rattle.stm_store.specs.Cells.{Covers, plains}
use Rattle.stm_store.specs.Naming.{Named, NumbersAreBelow, named_uses}
use Rattle.stm_history.specs.Progress.{MayBeNamed, with_name_of}
use Rattle.stm_history.proofs.CellNames.{below, covered_push}
use Rattle.stm_history.proofs.ReachedStages.{name_refused, store_refused}
use Rattle.stm_history.proofs.beginning.take_named.Goals as goal

pub returns-then-not-may_be_named-clause-refused : goal.returns-then-not-may_be_named-clause-refused
returns-then-not-may_be_named-clause-refused c =
    let a = c.args in
    let h = a.header in
    let name = option_map string_bytes a.cell.name in
    let l : vec_len a.cells ≡ length a.cells.items = search rules in
    let same = c.len-number.ensures ∙ l in
    name_refused h.format h.next h.vars h.waiting a.names a.cells.items name a.cell.cell c.requires.fits
    (λ m. let yes = c.may_be_named.ensures.1 (subst (λ (k : ℕ). MayBeNamed h.format a.names k name a.cell.cell.kind) (sym same) m) in cc (yes, c.if-not-may_be_named.true))

pub name_cell-requires-clause-above : goal.name_cell-requires-clause-above
name_cell-requires-clause-above c =
    let a = c.args in
    let l : vec_len a.cells ≡ length a.cells.items = search rules in
    subst (λ (k : ℕ). NumbersAreBelow k a.names) (sym (c.len-number.ensures ∙ l)) (below a.cells.items a.names c.requires.named)

pub with_cells-requires-clause-named : goal.with_cells-requires-clause-named
with_cells-requires-clause-named c =
    let a = c.args in
    let name = option_map string_bytes a.cell.name in
    let l : vec_len a.cells ≡ length a.cells.items = search rules in
    let named = c.in-Ok.ensures ∙ ap (λ (k : ℕ). with_name_of a.names k name a.cell.cell.kind) (c.len-number.ensures ∙ l) in
    subst (λ (cells : List Cell). Covers (plains cells) (named_uses c.name_cell.new.names)) (sym c.in-Ok-push.ensures.items)
    (subst (λ (names : List Named). Covers (plains (a.cells.items ++ a.cell.cell ∷ [])) (named_uses names)) (sym named) (covered_push a.names a.cells.items name a.cell.cell c.requires.named))

pub returns-in-Ok-push-clause-refused : goal.returns-in-Ok-push-clause-refused
returns-in-Ok-push-clause-refused c =
    let a = c.args in
    let h = a.header in
    store_refused c.with_cells.result h.format h.next h.vars h.waiting a.names a.cells.items _ (option_map string_bytes a.cell.name) a.cell.cell c.requires.fits c.in-Ok-push.ensures.items c.with_cells.ensures.err
