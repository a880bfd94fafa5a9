-- The variables of a table, one after another.
use Rattle.std.proofs.Common.{◌≡◌, ℕ, ◌+◌, List, [], ◌∷◌, ◌++◌, Option, Some, None, take, refl, sym, ap, subst, ◌∙◌}
use Rattle.std.specs.Prelude.{slice_get, option_map}
use Rattle.std.proofs.lemmas.List.{map-append}
use Rattle.stm_terms.specs.declared.kinds.Ty.{Ty}
use Rattle.stm_terms.specs.declared.values.Value.{Value}
use Rattle.stm_store.specs.Cells.{Covers}
use Rattle.stm_store.specs.Naming.{Named, named_use, named_uses, named_in_table}
use Rattle.stm_store.specs.Tables.{Declared}
use Rattle.stm_store.proofs.TableNames.{IsEntry, names_next}

uses_next_by : (table : List Declared) (i : ℕ) (kind : Ty) (o : Option Declared) → slice_get table i ≡ o → option_map (λ d. d.kind) o ≡ Some kind → named_uses (named_in_table (take i table)) ++ (i, kind) ∷ [] ≡ named_uses (named_in_table (take (i + 1) table))
uses_next_by table i kind (Some d) e k =
    let entry : IsEntry table i d.name kind = record { entry = d; there = e; name_is = refl; kind_is = cc } in
    let one : Named = record { name = d.name; number = i; kind = kind } in
    sym (map-append named_use (named_in_table (take i table)) (one ∷ [])) ∙ ap named_uses (names_next table i d.name kind entry)
uses_next_by table i kind None e k = absurd (cc)

-- the variables up to a place, and the next one
pub uses_next : (table : List Declared) (i : ℕ) (kind : Ty) → option_map (λ d. d.kind) (slice_get table i) ≡ Some kind → named_uses (named_in_table (take i table)) ++ (i, kind) ∷ [] ≡ named_uses (named_in_table (take (i + 1) table))
uses_next table i kind k = uses_next_by table i kind (slice_get table i) refl k

-- a store that has these variables has those of the names
pub covered_names : (cells : List (Ty × Value)) (uses : List (ℕ × Ty)) (table : List Declared) (names : List Named) → uses ≡ named_uses (named_in_table table) → names ≡ named_in_table table → Covers cells uses → Covers cells (named_uses names)
covered_names cells uses table names u n h = subst (Covers cells) (u ∙ ap named_uses (sym n)) h
