-- The decision `same_value` is equality.
use Rattle.std.proofs.Common.{◌≡◌, ℕ, true, false, ℤ, refl, sym, ap, arith, eqb-true}
use Rattle.std.specs.Prelude.{nat_eq}
use Rattle.std.specs.Ordering.{int_eq}
use Rattle.std.proofs.lemmas.Bool.Decides.{Decides-int_eq, nat_tests}
use Rattle.stm_terms.specs.declared.values.Ref.{Ref}
use Rattle.stm_terms.specs.declared.values.Ref.TheVariants.{Old, New}
use Rattle.stm_terms.specs.declared.values.Value.{Value}
use Rattle.stm_terms.specs.declared.values.Value.TheVariants.{Int, Bool as Truth, Unit as Nil, Var}
use Rattle.stm_terms.specs.Value.{same_ref, same_value}

ref_equal : (r q : Ref) → same_ref r q ≡ true → r ≡ q
ref_equal (Old i) (Old j) e = ap Old (eqb-true i j e)
ref_equal (Old i) (New j) e = cc
ref_equal (New i) (Old j) e = cc
ref_equal (New i) (New j) e = ap New (eqb-true i j e)

int_equal : (x y : ℤ) → int_eq x y ≡ true → x ≡ y
int_equal x y e = grind (arith, Decides-int_eq x y)

pub value_equal : (x y : Value) → same_value x y ≡ true → x ≡ y
value_equal (Int x) (Int y) e = ap Int (int_equal x y e)
value_equal (Int x) (Truth y) e = cc
value_equal (Int x) Nil e = cc
value_equal (Int x) (Var y) e = cc
value_equal (Truth true) (Int y) e = cc
value_equal (Truth true) (Truth y) e = ap Truth (sym e)
value_equal (Truth true) Nil e = cc
value_equal (Truth true) (Var y) e = cc
value_equal (Truth false) (Int y) e = cc
value_equal (Truth false) (Truth true) e = cc
value_equal (Truth false) (Truth false) e = refl
value_equal (Truth false) Nil e = cc
value_equal (Truth false) (Var y) e = cc
value_equal Nil (Int y) e = cc
value_equal Nil (Truth y) e = cc
value_equal Nil Nil e = refl
value_equal Nil (Var y) e = cc
value_equal (Var x) (Int y) e = cc
value_equal (Var x) (Truth y) e = cc
value_equal (Var x) Nil e = cc
value_equal (Var x) (Var y) e = ap Var (ref_equal x y e)

int_same : (x : ℤ) → int_eq x x ≡ true
int_same x = grind (arith, Decides-int_eq x x)

nat_same : (i : ℕ) → nat_eq i i ≡ true
nat_same i = grind (arith, nat_tests)

ref_same : (r : Ref) → same_ref r r ≡ true
ref_same (Old i) = nat_same i
ref_same (New i) = nat_same i

pub value_same : (x : Value) → same_value x x ≡ true
value_same (Int x) = int_same x
value_same (Truth true) = refl
value_same (Truth false) = refl
value_same Nil = refl
value_same (Var r) = ref_same r
