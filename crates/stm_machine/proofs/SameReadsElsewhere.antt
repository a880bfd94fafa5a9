-- What a block reads on a store differs nowhere there.
use Rattle.std.proofs.Common.{◌≡◌, ℕ, ◌<◌, ℤ, Bool, true, false, cond, List, [], ◌∷◌, Option, Some, None, refl, arith}
use Rattle.std.specs.Prelude.{nat_eq}
use Rattle.std.specs.Ordering.{int_eq}
use Rattle.std.proofs.lemmas.Bool.Decides.{nat_tests, Decides-int_eq}
use Rattle.stm_terms.specs.declared.values.Ref.TheVariants.{Old, New}
use Rattle.stm_terms.specs.declared.values.Value.{Value}
use Rattle.stm_terms.specs.declared.values.Value.TheVariants.{Int, Bool as Truth, Unit as Nil, Var}
use Rattle.stm_terms.specs.Value.{same_value}
use Rattle.stm_terms.specs.Ast.{Act}
use Rattle.stm_terms.specs.Typing.{AllAbove, Rising}
use Rattle.stm_terms.specs.Changes.{Variables, find}
use Rattle.stm_terms.specs.ReadSet.{reads_of}
use Rattle.stm_eval.specs.Messages.{Agrees}
use Rattle.stm_eval.proofs.FragmentsAndStores.{of_the_store}
use Rattle.stm_events.specs.Refusals.{has_value, differing}

int_same : (x : ℤ) → int_eq x x ≡ true
int_same x = grind (arith, Decides-int_eq x x)

number_same : (i : ℕ) → nat_eq i i ≡ true
number_same i = grind (arith, nat_tests)

pub value_same : (x : Value) → same_value x x ≡ true
value_same (Int x) = int_same x
value_same (Truth true) = refl
value_same (Truth false) = refl
value_same Nil = refl
value_same (Var (Old i)) = number_same i
value_same (Var (New i)) = number_same i

above_step : (b : Bool) (n i : ℕ) (v : Value) (r : ℕ × Value) (rs : List (ℕ × Value)) → nat_eq r.0 i ≡ b → n < r.0 → (find i rs ≡ Some v → n < i) → cond b (Some r.1) (find i rs) ≡ Some v → n < i
above_step true n i v r rs h l more e = grind (arith, nat_tests)
above_step false n i v r rs h l more e = more e

found_above : (n i : ℕ) (v : Value) (rs : List (ℕ × Value)) → AllAbove n rs → find i rs ≡ Some v → n < i
found_above n i v [] a e = cc
found_above n i v (r ∷ rs) a e = above_step (nat_eq r.0 i) n i v r rs refl a.0 (found_above n i v rs a.1) e

unequal : (k i : ℕ) → k < i → nat_eq k i ≡ false
unequal k i l = grind (arith, nat_tests)

there : (o : Option Value) (v : Value) → o ≡ Some v → has_value o v ≡ true
there o v e = rw e (value_same v)

pub differs_nowhere : (S : Variables) (rs : List (ℕ × Value)) → Rising rs → Agrees rs S → differing S rs ≡ None
differs_nowhere S [] r a = refl
differs_nowhere S (x ∷ rs) r a =
    let first : S x.0 ≡ Some x.1 = a x.0 x.1 (rw (number_same x.0) refl) in
    let rest : Agrees rs S = λ i v e. a i v (rw (unequal x.0 i (found_above x.0 i v rs r.0 e)) e) in
    rw (there (S x.0) x.1 first) (differs_nowhere S rs r.1 rest)

pub reads_differ_nowhere : (S : Variables) (block : Act) → differing S (reads_of S block) ≡ None
reads_differ_nowhere S block = let p = of_the_store block S in differs_nowhere S (reads_of S block) p.0 p.1
