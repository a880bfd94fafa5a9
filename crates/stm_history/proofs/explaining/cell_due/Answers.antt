use Rattle.std.proofs.Common.{◌≡◌, ℕ, true, length, rules, arith, subst}
use Rattle.std.specs.Prelude.{option_map, string_bytes}
use Rattle.std.proofs.lemmas.Grind.{common_steps}
use Rattle.stm_history.specs.Progress.{MayBeNamed}
use Rattle.stm_history.proofs.Explanations.{cell_head}
use Rattle.stm_history.proofs.explaining.cell_due.Goals as goal

pub returns-then-follows : goal.returns-then-follows
returns-then-follows c =
    let a = c.args in
    let h = a.header.now in
    let cells = a.cells.now.items in
    let name = option_map string_bytes a.cell.now.name in
    let before : c.len.result ≡ length cells = search rules in
    let yes : c.may_be_named.result ≡ true = let no = c.if-not-may_be_named.false in grind (arith, common_steps) in
    let named = subst (λ (n : ℕ). MayBeNamed h.format a.names.now n name a.cell.now.cell.kind) before (c.may_be_named.ensures.0 yes) in
    cell_head c.cell_written.result h.format h.vars a.names.now cells name a.cell.now.cell (record { fits = c.requires.fits; named = named; store = c.in_ok-follows.ensures c.if-follows.true }) c.cell_written.ensures
