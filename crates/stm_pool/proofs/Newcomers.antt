-- The passes with which a shared desk opens, one after another.
use Rattle.std.proofs.Common.{◌≡◌, ℕ, zero, suc, ◌+◌, List, [], ◌∷◌, ◌++◌, ap, ◌∙◌, arith}
use Rattle.stm_pool.specs.Own.{Known, newcomer, newcomers}

last_is : (c n : ℕ) → newcomers c n ++ newcomer (c + n) ∷ [] ≡ newcomers c (suc n)
last_is c zero =
    let same : c + zero ≡ c = omega arith in ap (λ (k : ℕ). newcomer k ∷ []) same
last_is c (suc n) =
    let same : c + suc n ≡ (c + 1) + n = omega arith in
    ap (λ (ps : List Known). newcomer c ∷ ps) (ap (λ (k : ℕ). newcomers (c + 1) n ++ newcomer k ∷ []) same ∙ last_is (c + 1) n)

-- one pass more
pub newcomer_more : (n : ℕ) (all now : List Known) (pass : Known) → all ≡ newcomers 0 n → now ≡ all ++ pass ∷ [] → pass ≡ newcomer n → now ≡ newcomers 0 (n + 1)
newcomer_more n all now pass before is new =
    let from_zero : n ≡ 0 + n = omega arith in
    let next : suc n ≡ n + 1 = omega arith in
    is
    ∙ ap (λ (ps : List Known). ps ++ pass ∷ []) before
    ∙ ap (λ (p : Known). newcomers 0 n ++ p ∷ []) new
    ∙ ap (λ (k : ℕ). newcomers 0 n ++ newcomer k ∷ []) from_zero
    ∙ last_is 0 n
    ∙ ap (λ (k : ℕ). newcomers 0 k) next
