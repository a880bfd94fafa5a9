-- Types of values, as the variables grow.
use Rattle.std.proofs.Common.{◌≡◌, ◌⊎◌, inl, inr, ℕ, zero, suc, List, [], ◌∷◌, ◌++◌, Option, Some, None, length, refl, ap, ◌∙◌}
use Rattle.std.specs.Prelude.{slice_get, option_map}
use Rattle.stm_terms.specs.declared.kinds.Ty.{Ty}
use Rattle.stm_terms.specs.declared.values.Ref.TheVariants.{Old, New}
use Rattle.stm_terms.specs.declared.values.Value.{Value}
use Rattle.stm_terms.specs.declared.values.Value.TheVariants.{Int, Bool as Truth, Unit as Nil, Var}
use Rattle.stm_terms.specs.Changes.{no_changes}
use Rattle.stm_terms.specs.Typing.{TypeEnv, var_ty, type_of}
use Rattle.stm_store.specs.Cells.{kinds_of}

-- an item of a list with one more is an item of the list, or that one
pub added_cases : {A : Type 0} (xs : List A) (y : A) (i : ℕ) (z : A) → slice_get (xs ++ y ∷ []) i ≡ Some z → (slice_get xs i ≡ Some z) ⊎ ((i ≡ length xs) × (y ≡ z))
added_cases [] y zero z e = inr (refl, cc)
added_cases [] y (suc i) z e = absurd (cc)
added_cases (x ∷ xs) y zero z e = inl e
added_cases (x ∷ xs) y (suc i) z e = elim (added_cases xs y i z e) [ inl p ↦ inl p | inr p ↦ inr (ap suc p.0, p.1) ]

-- variables that are there keep their types as others come after them
pub kinds-left : (cs ds : List (Ty × Value)) (i : ℕ) (t : Ty) → kinds_of cs i ≡ Some t → kinds_of (cs ++ ds) i ≡ Some t
kinds-left [] ds i t e = absurd (cc)
kinds-left (c ∷ cs) ds zero t e = e
kinds-left (c ∷ cs) ds (suc i) t e = kinds-left cs ds i t e

pub mapped : (o p : Option Ty) (t : Ty) → ((u : Ty) → o ≡ Some u → p ≡ Some u) → option_map var_ty o ≡ Some t → option_map var_ty p ≡ Some t
mapped (Some u) p t f e = ap (option_map var_ty) (f u refl) ∙ e
mapped None p t f e = absurd (cc)

-- so do values that refer to them
pub old_type : (k l : TypeEnv) → ((i : ℕ) (t : Ty) → k i ≡ Some t → l i ≡ Some t) → (v : Value) (t : Ty) → type_of k no_changes v ≡ Some t → type_of l no_changes v ≡ Some t
old_type k l old (Int z) t e = e
old_type k l old (Truth b) t e = e
old_type k l old Nil t e = e
old_type k l old (Var (Old i)) t e = mapped (k i) (l i) t (old i) e
old_type k l old (Var (New i)) t e = absurd (cc)
