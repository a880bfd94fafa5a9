use Rattle.std.proofs.Common.{◌≡◌, List, ℕ, Some, None, sym, ap, ◌∙◌, true, IsTrue, subst, arith}
use Rattle.std.proofs.lemmas.Grind.{common_steps}
use Rattle.std.specs.Prelude.{option_map, string_bytes}
use Rattle.std.proofs.lemmas.Slice.Eq.{bytes_eq-Decides}
use Rattle.serde_json.specs.View.{view}
use Rattle.stm_terms.specs.Names.{is_name_text}
use Rattle.stm_terms.specs.declared.kinds.Ty.{Ty}
use Rattle.stm_terms.specs.declared.values.Value.{Value}
use Rattle.stm_store.specs.Tables.{Declared}
use Rattle.stm_event_lines.specs.Lines.{variable_line}
use Rattle.stm_event_lines.specs.Fields.{declared_from_json}
use Rattle.stm_event_lines.specs.ReadLines.{declared}
use Rattle.stm_event_lines.proofs.read.variable_in.Goals as goal

-- a variable by its parts
abbrev written : List ℕ → Ty → Value → Declared
written n t v = record { name = n; kind = t; value = v }

pub returns-in_default-clause-bad : goal.returns-in_default-clause-bad
returns-in_default-clause-bad c = λ _ d f h l.
    let none : None ≡ declared_from_json (view c.args.json.now) = ap (option_map declared) (sym c.in_default.is) ∙ c.in_ok-variable.ensures.value in
    cc

pub returns-then-not-is_name-clause-bad : goal.returns-then-not-is_name-clause-bad
returns-then-not-is_name-clause-bad c = λ _ d f h l.
    let some : Some (declared c.in-Some.variable) ≡ declared_from_json (view c.args.json.now) = ap (option_map declared) (sym c.in-Some.is) ∙ c.in_ok-variable.ensures.value in
    let same : declared c.in-Some.variable ≡ d = cc in
    let named : is_name_text (string_bytes c.in-Some.variable.name) ≡ true = subst (λ (x : Declared). IsTrue (is_name_text x.name)) (sym same) f.0 in
    let told : c.is_name.result ≡ true = c.is_name.ensures ∙ ap is_name_text c.deref.ensures ∙ named in
    grind (arith, common_steps)

pub returns-else-eq-clause-bad : goal.returns-else-eq-clause-bad
returns-else-eq-clause-bad c = λ _ d f h l.
    let some : Some (declared c.in-Some.variable) ≡ declared_from_json (view c.args.json.now) = ap (option_map declared) (sym c.in-Some.is) ∙ c.in_ok-variable.ensures.value in
    let same : declared c.in-Some.variable ≡ d = cc in
    let text : c.as_bytes.result.now ≡ c.args.line.now = c.as_bytes.ensures.value ∙ c.in_ok-again.ensures ∙ ap (λ (n : List ℕ). variable_line (written n c.in-Some.variable.kind c.in-Some.variable.value)) c.deref-2.ensures ∙ ap variable_line same ∙ l in
    let yes = (bytes_eq-Decides c.as_bytes.result.now c.args.line.now).1 text in
    cc (yes, c.if-eq.ensures)
