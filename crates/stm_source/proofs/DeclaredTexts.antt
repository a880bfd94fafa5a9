-- What the variable of a text is, by what the table says of a variable of its name, type and first value.
use Rattle.std.proofs.Common.{◌≡◌, ℕ, List, [], ◌∷◌, ◌++◌, Ok, Err, ap, subst, ◌∙◌}
use Rattle.std.specs.Prelude.{length}
use Rattle.stm_terms.specs.declared.values.Value.{Value}
use Rattle.stm_terms.specs.UnlessNoMemory.{RefusedAs}
use Rattle.stm_terms.proofs.Refused.{accepted, refusal_is}
use Rattle.stm_parse.specs.Declarations.{ParsedDeclaration}
use Rattle.stm_parse.specs.ParseFunction.{parsed_declaration}
use Rattle.stm_store.specs.declared.table.DeclareError.{DeclareError}
use Rattle.stm_store.specs.declared.table.DeclareError.TheVariants.{NoMemory}
use Rattle.stm_store.specs.Tables.{Declared, declare_refusal}
use Rattle.stm_source.specs.declared.refusal.Refusal.TheVariants.{Declaring}
use Rattle.stm_source.specs.DeclaredVariable.{initial, unless_refused, with_initial_value, on_declaration, variable_of}
use Rattle.stm_source.specs.Declares.{Declares}

declared_by : (table : List Declared) (text : List ℕ) (d : ParsedDeclaration) (v : Value) → parsed_declaration text ≡ Ok d → initial table d.init ≡ Ok v
    → variable_of table text ≡ unless_refused (record { name = d.name; kind = d.kind; value = v }) (declare_refusal table d.name d.kind v)
unfolding variable_of
declared_by table text d v parsed first = ap (on_declaration table) parsed ∙ ap (with_initial_value table d.name d.kind) first

-- the table takes it
pub declares : (table new : List Declared) (text name : List ℕ) (d : ParsedDeclaration) (v : Value) (n : ℕ) → parsed_declaration text ≡ Ok d → initial table d.init ≡ Ok v → name ≡ d.name
    → RefusedAs NoMemory (declare_refusal table name d.kind v) (Ok n) → n ≡ length table → new ≡ table ++ record { name = name; kind = d.kind; value = v } ∷ []
    → Declares table (Ok n) new (variable_of table text)
declares table new text name d v n parsed first is taken number more =
    let x : Declared = record { name = d.name; kind = d.kind; value = v } in
    let none = accepted NoMemory (declare_refusal table d.name d.kind v) n (subst (λ (m : List ℕ). RefusedAs NoMemory (declare_refusal table m d.kind v) (Ok n)) is taken) in (
      x,
      declared_by table text d v parsed first ∙ ap (unless_refused x) none,
      number,
      subst (λ (m : List ℕ). new ≡ table ++ record { name = m; kind = d.kind; value = v } ∷ []) is more,
    )

-- the table refuses it
pub declares_not : (table new : List Declared) (text name : List ℕ) (d : ParsedDeclaration) (v : Value) (e : DeclareError) → parsed_declaration text ≡ Ok d → initial table d.init ≡ Ok v → name ≡ d.name
    → RefusedAs {A = ℕ} NoMemory (declare_refusal table name d.kind v) (Err e) → new ≡ table
    → Declares table (Err (Declaring e)) new (variable_of table text)
declares_not table new text name d v e parsed first is refused same =
    let x : Declared = record { name = d.name; kind = d.kind; value = v } in (
      same,
      λ memory. declared_by table text d v parsed first
          ∙ ap (unless_refused x) (refusal_is ℕ NoMemory (declare_refusal table d.name d.kind v) e (subst (λ (m : List ℕ). RefusedAs {A = ℕ} NoMemory (declare_refusal table m d.kind v) (Err e)) is refused) memory),
    )
