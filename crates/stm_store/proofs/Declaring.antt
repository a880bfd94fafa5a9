-- A table with one more variable.
use Rattle.std.proofs.Common.{◌≡◌, inl, inr, ℕ, suc, ◌+◌, ◌<◌, ◌≤◌, true, false, List, [], ◌∷◌, ◌++◌, Some, None, length, take, refl, sym, ap, subst, ◌∙◌, arith, length-append}
use Rattle.std.specs.Prelude.{is_some, nat_lt, IsTrue, if◌then◌else◌}
use Rattle.std.specs.Str.{bytes_eq}
use Rattle.std.proofs.lemmas.List.{map-append, take-append-le}
use Rattle.std.proofs.Math.Seq.{take-append_seam}
use Rattle.std.proofs.lemmas.Option.{slice_get_within}
use Rattle.std.proofs.lemmas.Bool.{false≢true, lt-ltb}
use Rattle.std.proofs.lemmas.Slice.Eq.{bytes_eq-Decides}
use Rattle.stm_terms.specs.declared.kinds.Ty.{Ty}
use Rattle.stm_terms.specs.declared.values.Value.{Value}
use Rattle.stm_terms.specs.Names.{is_name_text}
use Rattle.stm_terms.specs.Typing.{type_of}
use Rattle.stm_terms.specs.Changes.{no_changes}
use Rattle.stm_store.specs.Cells.{kinds_of, StoreIsTyped, StoreHasAtMost8Refs}
use Rattle.stm_store.specs.Tables.{Declared, declared_cell, declared_cells, number_from, number_of, may_hold, declare_refusal, NamesAreNames, NamesAreDistinct, AreDeclared, IsTable}
use Rattle.stm_store.proofs.TypeTestsDecide.{and_left, and_right, le_true, kind_from}
use Rattle.stm_store.proofs.Typed.{added_cases, kinds-left, old_type}

typed-added : (cells : List (Ty × Value)) (c : Ty × Value) → StoreIsTyped cells → type_of (kinds_of cells) no_changes c.1 ≡ Some c.0 → StoreIsTyped (cells ++ c ∷ [])
typed-added cells c typed e i d f =
    let wider = old_type (kinds_of cells) (kinds_of (cells ++ c ∷ [])) (kinds-left cells (c ∷ [])) in
    elim (added_cases cells c i d f) [
      | inl p ↦ wider d.1 d.0 (typed i d p)
      | inr p ↦ subst (λ (x : Ty × Value). type_of (kinds_of (cells ++ c ∷ [])) no_changes x.1 ≡ Some x.0) p.1 (wider c.1 c.0 e)
    ]

low-added : (cells : List (Ty × Value)) (c : Ty × Value) → StoreHasAtMost8Refs cells → c.0.refs ≤ 8 → StoreHasAtMost8Refs (cells ++ c ∷ [])
low-added cells c low e i d f =
    elim (added_cases cells c i d f) [
      | inl p ↦ low i d p
      | inr p ↦ subst (λ (x : Ty × Value). x.0.refs ≤ 8) p.1 e
    ]

named-added : (t : List Declared) (d : Declared) → NamesAreNames t → IsTrue (is_name_text d.name) → NamesAreNames (t ++ d ∷ [])
named-added t d named e i x f =
    elim (added_cases t d i x f) [
      | inl p ↦ named i x p
      | inr p ↦ subst (λ (y : Declared). IsTrue (is_name_text y.name)) p.1 e
    ]

-- a name that has a number keeps it, and one that has none gets the last
number-kept : (name : List ℕ) (i n : ℕ) (t : List Declared) (d : Declared) → number_from name i t ≡ Some n → number_from name i (t ++ d ∷ []) ≡ Some n
number-kept name i n [] d e = absurd (cc)
number-kept name i n (x ∷ t) d e =
    elim (bytes_eq x.name name) as (λ b. (if b then Some i else number_from name (i + 1) t) ≡ Some n → (if b then Some i else number_from name (i + 1) (t ++ d ∷ [])) ≡ Some n) [ true ↦ λ f. f | false ↦ λ f. number-kept name (i + 1) n t d f ] e

number-last : (i : ℕ) (t : List Declared) (d : Declared) → is_some (number_from d.name i t) ≡ false → number_from d.name i (t ++ d ∷ []) ≡ Some (i + length t)
number-last i [] d e =
    let same : bytes_eq d.name d.name ≡ true = (bytes_eq-Decides d.name d.name).1 refl in
    let s : i ≡ i + 0 = omega arith in
    rw same (ap Some s)
number-last i (x ∷ t) d e =
    let s : i + 1 + length t ≡ i + suc (length t) = omega arith in
    elim (bytes_eq x.name d.name) as (λ b. is_some (if b then Some i else number_from d.name (i + 1) t) ≡ false → (if b then Some i else number_from d.name (i + 1) (t ++ d ∷ [])) ≡ Some (i + suc (length t))) [ true ↦ λ f. absurd (false≢true (sym f)) | false ↦ λ f. number-last (i + 1) t d f ∙ ap Some s ] e

distinct-added : (t : List Declared) (d : Declared) → NamesAreDistinct t → is_some (number_of d.name t) ≡ false → NamesAreDistinct (t ++ d ∷ [])
distinct-added t d distinct e i x f =
    elim (added_cases t d i x f) [
      | inl p ↦ number-kept x.name 0 i t d (distinct i x p)
      | inr p ↦ let s : 0 + length t ≡ i = omega arith in
          subst (λ (y : Declared). number_of y.name (t ++ d ∷ []) ≡ Some i) p.1 (number-last 0 t d e ∙ ap Some s)
    ]

unrefused : (t : List Declared) (d : Declared) → length t < 1000000 → may_hold (declared_cells t) d.kind d.value ≡ true → is_some (number_of d.name t) ≡ false → declare_refusal t d.name d.kind d.value ≡ None
unrefused t d less holds fresh =
    let room : nat_lt (length t) 1000000 ≡ true = lt-ltb (length t) 1000000 less in
    rw (fresh, holds, room) refl

abbrev Unrefused : List Declared → Declared → Type 0
Unrefused before d = IsTrue (is_name_text d.name) × (declare_refusal before d.name d.kind d.value ≡ None)

declared-added : (t : List Declared) (d : Declared) → AreDeclared t → Unrefused t d → AreDeclared (t ++ d ∷ [])
declared-added t d declared free i x f =
    elim (added_cases t d i x f) [
      | inl p ↦ let l : i ≤ length t = omega (arith, slice_get_within t i x p) in
          subst (λ (before : List Declared). Unrefused before x) (sym (take-append-le i t (d ∷ []) l)) (declared i x p)
      | inr p ↦ let whole : t ≡ take i (t ++ d ∷ []) = sym (take-append_seam t (d ∷ [])) ∙ ap (λ (n : ℕ). take n (t ++ d ∷ [])) (sym p.0) in
          subst (λ (before : List Declared). Unrefused before x) whole (subst (λ (y : Declared). Unrefused t y) p.1 free)
    ]

pub table-added : (t : List Declared) (d : Declared) → IsTable t → length t < 1000000 → may_hold (declared_cells t) d.kind d.value ≡ true → is_some (number_of d.name t) ≡ false → IsTrue (is_name_text d.name) → IsTable (t ++ d ∷ [])
table-added t d i less holds fresh name =
    let cells : declared_cells (t ++ d ∷ []) ≡ declared_cells t ++ declared_cell d ∷ [] = map-append declared_cell t (d ∷ []) in
    record {
      small = omega (arith, length-append t (d ∷ []), i.small);
      typed = rw cells (typed-added (declared_cells t) (declared_cell d) i.typed (kind_from _ _ (and_right _ _ holds)));
      low = rw cells (low-added (declared_cells t) (declared_cell d) i.low (le_true _ _ (and_left _ _ holds)));
      named = named-added t d i.named name;
      distinct = distinct-added t d i.distinct fresh;
      declared = declared-added t d i.declared (name, unrefused t d less holds fresh);
    }
