-- The writes of a verdict, one by one.
use Rattle.std.proofs.Common.{◌≡◌, ℕ, ◌<◌, true, false, List, [], ◌∷◌, Some, refl, arith}
use Rattle.std.specs.Prelude.{⊤, nat_eq, if◌then◌else◌}
use Rattle.std.proofs.lemmas.Bool.Decides.{nat_tests}
use Rattle.stm_terms.specs.declared.values.Value.{Value}
use Rattle.stm_terms.specs.Changes.{find}
use Rattle.stm_terms.specs.Typing.{AllAbove, Rising}
use Rattle.stm_store.proofs.TypeTestsDecide.{same_number}

above_eq : (n m i : ℕ) → n < m → nat_eq m i ≡ true → nat_eq n i ≡ false
above_eq n m i h e = grind (arith, nat_tests)

find_above : (n : ℕ) (ws : List (ℕ × Value)) (i : ℕ) (v : Value) → AllAbove n ws → find i ws ≡ Some v → nat_eq n i ≡ false
find_above n [] i v a e = absurd (cc)
find_above n (w ∷ ws) i v a e =
    elim (nat_eq w.0 i) as (λ b. nat_eq w.0 i ≡ b → (if b then Some w.1 else find i ws) ≡ Some v → nat_eq n i ≡ false) [ true ↦ λ same f. above_eq n w.0 i a.0 same | false ↦ λ other f. find_above n ws i v a.1 f ] refl e

-- each write that a list of writes in order has is found in it
abbrev pub EachWrite : (ℕ → Value → Type 0) → List (ℕ × Value) → Type 0
EachWrite P [] = ⊤
EachWrite P (w ∷ ws) = P w.0 w.1 × EachWrite P ws

pub each_found : (P : ℕ → Value → Type 0) (ws : List (ℕ × Value)) → Rising ws → ((i : ℕ) (v : Value) → find i ws ≡ Some v → P i v) → EachWrite P ws
each_found P [] r f = tt
each_found P (w ∷ ws) r f =
    (f w.0 w.1 (rw (same_number w.0)), each_found P ws r.1 (λ i v e. f i v (rw (find_above w.0 ws i v r.0 e) e)))
