-- What the tests of types say.
use Rattle.std.proofs.Common.{◌≡◌, ℕ, ◌≤◌, Bool, true, false, ◌&&◌, Option, Some, None, refl, ap, ◌∙◌, arith, eqb-true}
use Rattle.std.specs.Prelude.{nat_eq, nat_le}
use Rattle.std.proofs.lemmas.Bool.{false≢true}
use Rattle.std.proofs.lemmas.Bool.Decides.{nat_tests}
use Rattle.stm_terms.specs.declared.kinds.Base.{Base as BaseTy}
use Rattle.stm_terms.specs.declared.kinds.Base.TheVariants.{Int as IntBase, Bool as BoolBase, Unit as UnitBase}
use Rattle.stm_terms.specs.declared.kinds.Ty.{Ty}
use Rattle.stm_terms.specs.Typing.{same_base, same_ty}
use Rattle.stm_store.specs.Tables.{is_type}

pub and_left : (a b : Bool) → (a && b) ≡ true → a ≡ true
and_left true b e = refl
and_left false b e = e

pub and_right : (a b : Bool) → (a && b) ≡ true → b ≡ true
and_right true b e = e
and_right false b e = absurd (false≢true e)

pub both : (a b : Bool) → a ≡ true → b ≡ true → (a && b) ≡ true
both a b p q = ap (λ (x : Bool). x && b) p ∙ q

pub le_true : (a b : ℕ) → nat_le a b ≡ true → a ≤ b
le_true a b e = grind (arith, nat_tests)

pub true_le : (a b : ℕ) → a ≤ b → nat_le a b ≡ true
true_le a b h = grind (arith, nat_tests)

pub same_number : (n : ℕ) → nat_eq n n ≡ true
same_number n = grind (arith, nat_tests)

base_equal : (a b : BaseTy) → same_base a b ≡ true → a ≡ b
base_equal IntBase IntBase e = refl
base_equal BoolBase BoolBase e = refl
base_equal UnitBase UnitBase e = refl
base_equal a b e = absurd (false≢true e)

base_same : (a : BaseTy) → same_base a a ≡ true
base_same IntBase = refl
base_same BoolBase = refl
base_same UnitBase = refl

ty_equal : (t u : Ty) → same_ty t u ≡ true → t ≡ u
ty_equal t u e =
    let p : t.base ≡ u.base = base_equal _ _ (and_left _ _ e) in
    let q : t.refs ≡ u.refs = eqb-true t.refs u.refs (and_right _ _ e) in
    λ i. record { base = p i; refs = q i }

-- the test of a type, from it and to it
pub kind_from : (o : Option Ty) (t : Ty) → is_type o t ≡ true → o ≡ Some t
kind_from (Some u) t e = ap Some (ty_equal u t e)
kind_from None t e = absurd (false≢true e)

pub kind_to : (o : Option Ty) (t : Ty) → o ≡ Some t → is_type o t ≡ true
kind_to o t e = rw e (both _ _ (base_same t.base) (same_number t.refs))
