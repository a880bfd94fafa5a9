use Rattle.std.proofs.Common.{◌≡◌, List, ℕ, Option, Some, None, sym, ap, ◌∙◌, subst}
use Rattle.std.specs.Prelude.{option_map, string_bytes}
use Rattle.std.proofs.lemmas.Slice.Eq.{bytes_eq-Decides}
use Rattle.serde_json.specs.View.{view}
use Rattle.stm_store.specs.declared.cell.Cell.{Cell}
use Rattle.stm_event_lines.specs.CheckpointLines.{cell_line, FitsName}
use Rattle.stm_event_lines.specs.CheckpointFields.{cell_of}
use Rattle.stm_event_lines.specs.ReadLines.{cell_parts}
use Rattle.stm_event_lines.proofs.checkpoint.cell_in.Goals as goal

pub returns-in_default-clause-bad : goal.returns-in_default-clause-bad
returns-in_default-clause-bad c = λ _ name x f h l.
    let none : None ≡ cell_of (view c.args.json.now) = ap (option_map cell_parts) (sym c.in_default.is) ∙ c.in_ok-cell.ensures.value in
    cc

pub returns-then-not-is_fit_name-clause-bad : goal.returns-then-not-is_fit_name-clause-bad
returns-then-not-is_fit_name-clause-bad c = λ _ name x f h l.
    let some : Some (cell_parts c.in-Some.cell) ≡ cell_of (view c.args.json.now) = ap (option_map cell_parts) (sym c.in-Some.is) ∙ c.in_ok-cell.ensures.value in
    let same : cell_parts c.in-Some.cell ≡ (name, x) = cc in
    let named : option_map string_bytes c.in-Some.cell.name ≡ name = ap (λ (p : Option (List ℕ) × Cell). p.0) same in
    let told = c.is_fit_name.ensures.1 (subst FitsName (sym (c.name_of_cell-name.ensures ∙ named)) f.0) in
    cc (told, c.if-not-is_fit_name.true)

pub returns-else-eq-clause-bad : goal.returns-else-eq-clause-bad
returns-else-eq-clause-bad c = λ _ name x f h l.
    let some : Some (cell_parts c.in-Some.cell) ≡ cell_of (view c.args.json.now) = ap (option_map cell_parts) (sym c.in-Some.is) ∙ c.in_ok-cell.ensures.value in
    let same : cell_parts c.in-Some.cell ≡ (name, x) = cc in
    let text : c.as_bytes.result.now ≡ c.args.line.now =
    c.as_bytes.ensures.value ∙ c.in_ok-again.ensures ∙ ap (λ (n : Option (List ℕ)). cell_line n c.in-Some.cell.cell) c.name_of_cell-name.ensures ∙ ap (λ (p : Option (List ℕ) × Cell). cell_line p.0 p.1) same ∙ l in
    let yes = (bytes_eq-Decides c.as_bytes.result.now c.args.line.now).1 text in
    cc (yes, c.if-eq.ensures)
