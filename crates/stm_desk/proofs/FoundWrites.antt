-- What a binary search among writes finds.
use Rattle.std.proofs.Common.{◌≡◌, ◌≢◌, ⊎_elim, ℕ, zero, suc, ◌<◌, ◌≤◌, false, Some, None, Result, Ok, Err, IfOk, IfErr, List, [], ◌∷◌, length, get_or, refl, sym, arith, eq-eqb}
use Rattle.std.specs.Prelude.{nat_eq}
use Rattle.std.specs.List.Sorted.{IsSearchInRange, IsBinarySearchResult, IsNonDecreasingBy}
use Rattle.std.specs.Ordering.{nat_cmp, ordering_index}
use Rattle.std.proofs.lemmas.Cmp.{ranked}
use Rattle.std.proofs.lemmas.List.Sorted.{IsNonDecreasingBy-from_default}
use Rattle.std.proofs.lemmas.Bool.{cases_lt}
use Rattle.std.proofs.lemmas.Bool.Decides.{nat_tests}
use Rattle.stm_terms.specs.declared.values.Value.{Value}
use Rattle.stm_terms.specs.declared.values.Value.TheVariants.{Unit as Nil}
use Rattle.stm_terms.specs.Changes.{find}
use Rattle.stm_terms.specs.Typing.{AllAbove, Rising}

differs : (n k : ℕ) → n ≢ k → nat_eq n k ≡ false
differs n k e = grind (arith, nat_tests)

above_at : (n j : ℕ) (ws : List (ℕ × Value)) (d : ℕ × Value) → AllAbove n ws → j < length ws → n < (get_or ws j d).0
above_at n j [] d a h = absurd (omega arith)
above_at n zero (w ∷ ws) d a h = a.0
above_at n (suc j) (w ∷ ws) d a h = above_at n j ws d a.1 (omega arith)

keys_rise : (ws : List (ℕ × Value)) (i j : ℕ) (d : ℕ × Value) → Rising ws → i ≤ j → j < length ws → (get_or ws i d).0 ≤ (get_or ws j d).0
keys_rise [] i j d r le h = absurd (omega arith)
keys_rise (w ∷ ws) zero zero d r le h = omega arith
keys_rise (w ∷ ws) zero (suc j) d r le h = let above : w.0 < (get_or ws j d).0 = above_at w.0 j ws d r.0 (omega arith) in omega arith
keys_rise (w ∷ ws) (suc i) zero d r le h = absurd (omega arith)
keys_rise (w ∷ ws) (suc i) (suc j) d r le h = keys_rise ws i j d r.1 (omega arith) (omega arith)

comparisons_rise : (k : ℕ) (ws : List (ℕ × Value)) → Rising ws → IsNonDecreasingBy (λ w. ordering_index (nat_cmp w.0 k)) ws
comparisons_rise k ws r = IsNonDecreasingBy-from_default (λ w. ordering_index (nat_cmp w.0 k)) ws (0, Nil) (λ i j le in_range.
    let rise : (get_or ws i (0, Nil)).0 ≤ (get_or ws j (0, Nil)).0 = keys_rise ws i j (0, Nil) r le in_range in
    grind (arith, nat_tests))

found_here : (k at : ℕ) (ws : List (ℕ × Value)) (d : ℕ × Value) → Rising ws → at < length ws → (get_or ws at d).0 ≡ k → find k ws ≡ Some (get_or ws at d).1
found_here k at [] d r h e = absurd (omega arith)
found_here k zero (w ∷ ws) d r h e = rw (eq-eqb w.0 k e) refl
found_here k (suc at) (w ∷ ws) d r h e =
    let above : w.0 < (get_or ws at d).0 = above_at w.0 at ws d r.0 (omega arith) in
    let other : nat_eq w.0 k ≡ false = differs w.0 k (omega arith) in
    rw other (found_here k at ws d r.1 (omega arith) e)

found_nowhere : (k : ℕ) (ws : List (ℕ × Value)) → ((j : ℕ) → j < length ws → (get_or ws j (0, Nil)).0 ≢ k) → find k ws ≡ None
found_nowhere k [] h = refl
found_nowhere k (w ∷ ws) h = rw (differs w.0 k (h 0 (omega arith))) (found_nowhere k ws (λ j l. h (suc j) (omega arith)))

-- the value at the place that is found is the one of the variable, and without a place there is none
pub record IsFound (k : ℕ) (ws : List (ℕ × Value)) (r : Result ℕ ℕ) : Type 0 where
  pub at : IfOk r (λ i. (i < length ws) × ((d : ℕ × Value) → find k ws ≡ Some (get_or ws i d).1))
  pub none : IfErr r (λ i. find k ws ≡ None)

pub is_found : (k : ℕ) (ws : List (ℕ × Value)) (r : Result ℕ ℕ) → Rising ws → IsSearchInRange r (length ws) → IsBinarySearchResult (λ w. nat_cmp w.0 k) ws r → IsFound k ws r
is_found k ws (Ok i) rising within equal = record { at = (within, λ d. found_here k i ws d rising within (ranked _ k _ (sym (equal d)))); none = tt }
is_found k ws (Err i) rising within parted = record { at = tt; none = found_nowhere k ws other } where
  other : (j : ℕ) → j < length ws → (get_or ws j (0, Nil)).0 ≡ k → ⊥
  other j l same =
      ⊎_elim (λ (lt : j < i). let less : (get_or ws j (0, Nil)).0 < k = ranked _ k _ (sym ((parted (comparisons_rise k ws rising)).0 j (0, Nil) (omega arith) lt)) in omega arith)
      (λ (ge : i ≤ j). let more : k < (get_or ws j (0, Nil)).0 = ranked _ k _ (sym ((parted (comparisons_rise k ws rising)).1 j (0, Nil) ge l)) in omega arith) (cases_lt j i)
