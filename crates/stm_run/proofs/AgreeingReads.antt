-- Reads of which none differs from a store agree with it.
use Rattle.std.proofs.Common.{◌≡◌, ℕ, ℤ, Bool, true, false, cond, List, [], ◌∷◌, Option, Some, None, refl, sym, ap, subst, ◌∙◌, arith, eqb-true}
use Rattle.std.specs.Prelude.{nat_eq}
use Rattle.std.specs.Ordering.{int_eq}
use Rattle.std.proofs.lemmas.Bool.Decides.{Decides-int_eq}
use Rattle.stm_terms.specs.declared.values.Ref.{Ref}
use Rattle.stm_terms.specs.declared.values.Ref.TheVariants.{Old, New}
use Rattle.stm_terms.specs.declared.values.Value.{Value}
use Rattle.stm_terms.specs.declared.values.Value.TheVariants.{Int, Bool as Truth, Unit as Nil, Var}
use Rattle.stm_terms.specs.Value.{same_value, same_ref}
use Rattle.stm_terms.specs.Changes.{Variables, find}
use Rattle.stm_eval.specs.Messages.{Agrees}
use Rattle.stm_events.specs.Refusals.{has_value, differing}

same_refs : (r q : Ref) → same_ref r q ≡ true → r ≡ q
same_refs (Old i) (Old j) e = ap Old (eqb-true i j e)
same_refs (Old i) (New j) e = cc
same_refs (New i) (Old j) e = cc
same_refs (New i) (New j) e = ap New (eqb-true i j e)

same_ints : (x y : ℤ) → int_eq x y ≡ true → x ≡ y
same_ints x y e = grind (arith, Decides-int_eq x y)

same_values : (x y : Value) → same_value x y ≡ true → x ≡ y
same_values (Int x) (Int y) e = ap Int (same_ints x y e)
same_values (Int x) (Truth y) e = cc
same_values (Int x) Nil e = cc
same_values (Int x) (Var y) e = cc
same_values (Truth true) (Int y) e = cc
same_values (Truth true) (Truth y) e = ap Truth (sym e)
same_values (Truth true) Nil e = cc
same_values (Truth true) (Var y) e = cc
same_values (Truth false) (Int y) e = cc
same_values (Truth false) (Truth true) e = cc
same_values (Truth false) (Truth false) e = refl
same_values (Truth false) Nil e = cc
same_values (Truth false) (Var y) e = cc
same_values Nil (Int y) e = cc
same_values Nil (Truth y) e = cc
same_values Nil Nil e = refl
same_values Nil (Var y) e = cc
same_values (Var x) (Int y) e = cc
same_values (Var x) (Truth y) e = cc
same_values (Var x) Nil e = cc
same_values (Var x) (Var y) e = ap Var (same_refs x y e)

held : (o : Option Value) (v : Value) → has_value o v ≡ true → o ≡ Some v
held (Some x) v e = ap Some (same_values x v e)
held None v e = cc

agrees_first : (b c : Bool) (S : Variables) (r : ℕ × Value) (rs : List (ℕ × Value)) (i : ℕ) (v : Value) → has_value (S r.0) r.1 ≡ b → nat_eq r.0 i ≡ c
    → (differing S rs ≡ None → find i rs ≡ Some v → S i ≡ Some v) → cond b (differing S rs) (Some r.0) ≡ None → cond c (Some r.1) (find i rs) ≡ Some v → S i ≡ Some v
agrees_first false c S r rs i v h n more d e = cc
agrees_first true true S r rs i v h n more d e =
    let q : r.1 ≡ v = cc in
    subst (λ (j : ℕ). S j ≡ Some v) (eqb-true r.0 i n) (held (S r.0) r.1 h ∙ ap Some q)
agrees_first true false S r rs i v h n more d e = more d e

pub agrees_there : (S : Variables) (reads : List (ℕ × Value)) → differing S reads ≡ None → Agrees reads S
agrees_there S [] d i v e = cc
agrees_there S (r ∷ rs) d i v e = agrees_first (has_value (S r.0) r.1) (nat_eq r.0 i) S r rs i v refl refl (λ g. agrees_there S rs g i v) d e
