-- A table stays well typed as variables are declared.
use Rattle.std.proofs.Common.{◌≡◌, ◌⊎◌, inl, inr, ℕ, zero, suc, true, List, [], ◌∷◌, ◌++◌, Option, Some, None, refl, ap, subst, ◌∙◌, eqb-true}
use Rattle.std.specs.Prelude.{slice_get, option_map}
use Rattle.std.proofs.lemmas.Bool.{and_parts, false≢true}
use Rattle.std.proofs.lemmas.List.{map-append}
use Rattle.stm_terms.specs.declared.kinds.Base.{Base}
use Rattle.stm_terms.specs.declared.kinds.Base.TheVariants as base
use Rattle.stm_terms.specs.declared.kinds.Ty.{Ty}
use Rattle.stm_terms.specs.declared.values.Ref.TheVariants.{Old, New}
use Rattle.stm_terms.specs.declared.values.Value.{Value}
use Rattle.stm_terms.specs.declared.values.Value.TheVariants.{Int, Bool as Truth, Unit as Nil, Var}
use Rattle.stm_terms.specs.Changes.{no_changes}
use Rattle.stm_terms.specs.Typing.{TypeEnv, var_ty, type_of, same_base, same_ty}
use Rattle.stm_store.specs.Cells.{kinds_of, StoreIsTyped}
use Rattle.stm_store.specs.Tables.{Declared, declared_cell, declared_cells, is_type, may_hold}

-- an item of a list with one more is an item of the list, or that one
one_more : {A : Type 0} (xs : List A) (y : A) (i : ℕ) (z : A) → slice_get (xs ++ y ∷ []) i ≡ Some z → (slice_get xs i ≡ Some z) ⊎ (y ≡ z)
one_more [] y zero z e = inr cc
one_more [] y (suc i) z e = absurd cc
one_more (x ∷ xs) y zero z e = inl e
one_more (x ∷ xs) y (suc i) z e = one_more xs y i z e

-- variables keep their types as others come after them
kinds_kept : (cs ds : List (Ty × Value)) (i : ℕ) (t : Ty) → kinds_of cs i ≡ Some t → kinds_of (cs ++ ds) i ≡ Some t
kinds_kept [] ds i t e = absurd cc
kinds_kept (c ∷ cs) ds zero t e = e
kinds_kept (c ∷ cs) ds (suc i) t e = kinds_kept cs ds i t e

referred : (o p : Option Ty) (t : Ty) → ((u : Ty) → o ≡ Some u → p ≡ Some u) → option_map var_ty o ≡ Some t → option_map var_ty p ≡ Some t
referred (Some u) p t f e = ap (option_map var_ty) (f u refl) ∙ e
referred None p t f e = absurd cc

-- so do values that refer to them
type_kept : (few more : TypeEnv) → ((i : ℕ) (t : Ty) → few i ≡ Some t → more i ≡ Some t) → (v : Value) (t : Ty) → type_of few no_changes v ≡ Some t → type_of more no_changes v ≡ Some t
type_kept few more kept (Int z) t e = e
type_kept few more kept (Truth b) t e = e
type_kept few more kept Nil t e = e
type_kept few more kept (Var (Old i)) t e = referred (few i) (more i) t (kept i) e
type_kept few more kept (Var (New i)) t e = absurd cc

typed_with : (cells : List (Ty × Value)) (c : Ty × Value) → StoreIsTyped cells → type_of (kinds_of cells) no_changes c.1 ≡ Some c.0 → StoreIsTyped (cells ++ c ∷ [])
typed_with cells c typed e i d f = of (one_more cells c i d f)
  where
    kept : (v : Value) (t : Ty) → type_of (kinds_of cells) no_changes v ≡ Some t → type_of (kinds_of (cells ++ c ∷ [])) no_changes v ≡ Some t
    kept = type_kept (kinds_of cells) (kinds_of (cells ++ c ∷ [])) (kinds_kept cells (c ∷ []))

    of : (slice_get cells i ≡ Some d) ⊎ (c ≡ d) → type_of (kinds_of (cells ++ c ∷ [])) no_changes d.1 ≡ Some d.0
    of (inl p) = kept d.1 d.0 (typed i d p)
    of (inr p) = subst (λ (x : Ty × Value). type_of (kinds_of (cells ++ c ∷ [])) no_changes x.1 ≡ Some x.0) p (kept c.1 c.0 e)

same_bases : (a b : Base) → same_base a b ≡ true → a ≡ b
same_bases base.Int base.Int e = refl
same_bases base.Bool base.Bool e = refl
same_bases base.Unit base.Unit e = refl
same_bases a b e = absurd (false≢true e)

same_types : (t u : Ty) → same_ty t u ≡ true → t ≡ u
same_types t u e =
    let h = and_parts _ _ e in
    let p : t.base ≡ u.base = same_bases _ _ h.0 in
    let q : t.refs ≡ u.refs = eqb-true t.refs u.refs h.1 in
    λ i. record { base = p i; refs = q i }

pub same_kind : (o : Option Ty) (t : Ty) → is_type o t ≡ true → o ≡ Some t
same_kind (Some u) t e = ap Some (same_types u t e)
same_kind None t e = absurd (false≢true e)

-- a variable that may be declared keeps the table well typed
pub typed_more : (table : List Declared) (d : Declared) → StoreIsTyped (declared_cells table) → may_hold (declared_cells table) d.kind d.value ≡ true → StoreIsTyped (declared_cells (table ++ d ∷ []))
typed_more table d typed e =
    let cells : declared_cells (table ++ d ∷ []) ≡ declared_cells table ++ declared_cell d ∷ [] = map-append declared_cell table (d ∷ []) in
    rw cells (typed_with (declared_cells table) (declared_cell d) typed (same_kind _ _ (and_parts _ _ e).1))
