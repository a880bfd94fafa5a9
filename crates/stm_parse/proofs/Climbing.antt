-- Operators by climbing: where no operator of a tier is next, its tail reads nothing.
use Rattle.std.proofs.Common.{◌≡◌, ℕ, zero, suc, ◌+◌, ◌-◌, ◌<◌, ◌≤◌, List, [], ◌∷◌, ◌∙◌, refl, sym, ap, arith, inl, inr, Option, Some, None, Result, Ok, Err, Bool, true, false, cond, nat_eq, ◌⊎◌}
use Rattle.std.proofs.lemmas.Bool.{eqb-true, eq-eqb}
use Rattle.stm_terms.specs.declared.expr.Op.{Op}
use Rattle.stm_terms.specs.ParsedAst.{RawTerm, bin}
use Rattle.stm_parse.specs.declared.token.Lexeme.{Lexeme}
use Rattle.stm_parse.specs.declared.token.Fault.{Fault}
use Rattle.stm_parse.specs.declared.cursor.Grouping.{Grouping}
use Rattle.stm_parse.specs.declared.cursor.Grouping.TheVariants as grouping
use Rattle.stm_parse.specs.Grammar.{deepest, operator_of, grouping_of}
use Rattle.stm_parse.specs.Descent.{Reading, ◌>>=◌, op_pick, op_next, op_found, op_ahead, tail_by, tail_turn, step_from, tier_with, atom_at, tier_at, tail_at, climbs, climb_at, climb_by}
use Rattle.stm_parse.specs.Bounds.{right_width, next_from, climb_within}
use Rattle.stm_parse.proofs.DepthLevels.{tail_more}

stays_read : {A : Type 0} (r : Reading A) → (r >>= λ a. Ok (a.0, a.1)) ≡ r
stays_read (Ok a) = refl
stays_read (Err e) = refl

regroup : {A B C : Type 0} (r : Result A Fault) (f : A → Result B Fault) (g : B → Result C Fault) → ((r >>= f) >>= g) ≡ (r >>= λ a. f a >>= g)
regroup (Ok a) f g = refl
regroup (Err e) f g = refl

tier_suc : (k n : ℕ) (toks : List Lexeme) → tier_at (suc k) n toks ≡ (tier_at k n toks >>= λ a. tail_at k n a.0 a.1)
unfolding tier_with tier_at tail_at step_from
tier_suc k n toks = refl

tier_climbs : (c k n : ℕ) (toks : List Lexeme) → tier_at (k + c) n toks ≡ (tier_at k n toks >>= λ a. climbs c k n a.0 a.1)
unfolding climbs
tier_climbs zero k n toks = let e : k + zero ≡ k = omega arith in ap (λ j. tier_at j n toks) e ∙ sym (stays_read (tier_at k n toks))
tier_climbs (suc c) k n toks =
    let e : k + suc c ≡ suc k + c = omega arith in
    ap (λ j. tier_at j n toks) e
    ∙ tier_climbs c (suc k) n toks
    ∙ ap (λ r. r >>= λ b. climbs c (suc k) n b.0 b.1) (tier_suc k n toks)
    ∙ regroup (tier_at k n toks) (λ a. tail_at k n a.0 a.1) (λ b. climbs c (suc k) n b.0 b.1)

pub tier_from_atom : (width n : ℕ) (toks : List Lexeme) → tier_at width n toks ≡ (atom_at n toks >>= λ a. climb_at 0 width n a.0 a.1)
unfolding tier_with tier_at climb_at
tier_from_atom width n toks =
    let e : width ≡ 0 + width = omega arith in
    let m : width ≡ width - 0 = omega arith in
    ap (λ j. tier_at j n toks) e ∙ tier_climbs width 0 n toks ∙ ap (λ c. atom_at n toks >>= λ a. climbs c 0 n a.0 a.1) m

-- no operator of the c tiers from k on is next
Lack : ℕ → ℕ → List Lexeme → Type 0
Lack c k toks = (j : ℕ) → k ≤ j → j < k + c → op_next j toks ≡ None

tail_stays : (k n : ℕ) (left : RawTerm) (toks : List Lexeme) → n ≤ deepest → op_next k toks ≡ None → tail_at k n left toks ≡ Ok (left, toks)
tail_stays k n left toks low e = tail_more k n left toks low ∙ ap (tail_turn (grouping_of k) (tier_at k n) (tier_at (k + 1) n) (tail_at k n) left toks) e

stays : (c k n : ℕ) (left : RawTerm) (toks : List Lexeme) → n ≤ deepest → Lack c k toks → climbs c k n left toks ≡ Ok (left, toks)
unfolding climbs Lack
stays zero k n left toks low h = refl
stays (suc c) k n left toks low h =
    ap (λ r. r >>= λ a. climbs c (suc k) n a.0 a.1) (tail_stays k n left toks low (h k (omega arith) (omega arith)))
    ∙ stays c (suc k) n left toks low (λ j a b. h j (omega arith) (omega arith))

skips : (d c k n : ℕ) (left : RawTerm) (toks : List Lexeme) → n ≤ deepest → Lack d k toks → climbs (d + c) k n left toks ≡ climbs c (k + d) n left toks
unfolding climbs Lack
skips zero c k n left toks low h =
    let e : zero + c ≡ c = omega arith in
    let f : k ≡ k + zero = omega arith in
    ap (λ m. climbs m k n left toks) e ∙ ap (λ j. climbs c j n left toks) f
skips (suc d) c k n left toks low h =
    let e : suc d + c ≡ suc (d + c) = omega arith in
    let f : suc k + d ≡ k + suc d = omega arith in
    ap (λ m. climbs m k n left toks) e
    ∙ ap (λ r. r >>= λ a. climbs (d + c) (suc k) n a.0 a.1) (tail_stays k n left toks low (h k (omega arith) (omega arith)))
    ∙ skips d c (suc k) n left toks low (λ j a b. h j (omega arith) (omega arith))
    ∙ ap (λ j. climbs c j n left toks) f

none_ahead : (toks : List Lexeme) → op_ahead toks ≡ None → (j : ℕ) → op_next j toks ≡ None
none_ahead [] e j = refl
none_ahead (x ∷ s) e j = of (operator_of x.sym) e
  where
    of : (o : Option (ℕ × Op)) → op_found o s ≡ None → op_pick j o s ≡ None
    of None e = refl
    of (Some p) e = absurd cc

-- an operator is one of its own tier, and of no other
ahead_is : (toks : List Lexeme) (k : ℕ) (o : Op) (rest : List Lexeme) → op_ahead toks ≡ Some (k, o, rest) → op_next k toks ≡ Some (o, rest)
ahead_is [] k o rest e = absurd cc
ahead_is (x ∷ s) k o rest e = of (operator_of x.sym) e
  where
    of : (q : Option (ℕ × Op)) → op_found q s ≡ Some (k, o, rest) → op_pick k q s ≡ Some (o, rest)
    of None e = absurd cc
    of (Some p) e =
        let all : (p.0, p.1, s) ≡ (k, o, rest) = cc in
        ap (λ b. cond b (Some (p.1, s)) None) (eq-eqb p.0 k (ap (λ (q : ℕ × Op × List Lexeme). q.0) all)) ∙ ap (λ (q : ℕ × Op × List Lexeme). Some (q.1, q.2)) all

never : (m k j : ℕ) → m ≡ k → m ≡ j → (j < k) ⊎ (k < j) → ⊥
never m k j e f (inl h) = omega arith
never m k j e f (inr h) = omega arith

ahead_only : (toks : List Lexeme) (k : ℕ) (o : Op) (rest : List Lexeme) → op_ahead toks ≡ Some (k, o, rest) → (j : ℕ) → (j < k) ⊎ (k < j) → op_next j toks ≡ None
ahead_only [] k o rest e j apart = refl
ahead_only (x ∷ s) k o rest e j apart = of (operator_of x.sym) e
  where
    of : (q : Option (ℕ × Op)) → op_found q s ≡ Some (k, o, rest) → op_pick j q s ≡ None
    of None e = refl
    of (Some p) e = by (nat_eq p.0 j) refl
      where
        by : (b : Bool) → nat_eq p.0 j ≡ b → cond {A = Option (Op × List Lexeme)} b (Some (p.1, s)) None ≡ None
        by true q =
            let all : (p.0, p.1, s) ≡ (k, o, rest) = cc in
            absurd (never p.0 k j (ap (λ (q : ℕ × Op × List Lexeme). q.0) all) (eqb-true p.0 j q) apart)
        by false q = refl

pub climb_ends : (k width n : ℕ) (left : RawTerm) (toks : List Lexeme) → n ≤ deepest → op_ahead toks ≡ None → climb_at k width n left toks ≡ Ok (left, toks)
unfolding climb_at Lack
climb_ends k width n left toks low e = stays (width - k) k n left toks low (λ j a b. none_ahead toks e j)

pub climb_leaves : (k width n : ℕ) (left : RawTerm) (toks : List Lexeme) (own : ℕ) (o : Op) (rest : List Lexeme) → n ≤ deepest → op_ahead toks ≡ Some (own, o, rest) → (own < k) ⊎ (width ≤ own) → climb_at k width n left toks ≡ Ok (left, toks)
unfolding climb_at Lack
climb_leaves k width n left toks own o rest low e far =
    stays (width - k) k n left toks low (λ j a b. ahead_only toks own o rest e j (elim far [ inl h ↦ inr (omega arith) | inr h ↦ inl (omega arith) ]))

by_more : (g : Grouping) (k c n : ℕ) (left : RawTerm) (o : Op) (rest : List Lexeme) (width : ℕ) → c ≡ width - (k + 1) → k < width → (tail_by g (tier_at k n) (tier_at (k + 1) n) (tail_at k n) left o rest >>= λ a. climbs c (suc k) n a.0 a.1) ≡ climb_by g k width n left o rest
unfolding climbs climb_at
by_more grouping.ToLeft k c n left o rest width e h =
    let m : suc c ≡ width - k = omega arith in
    regroup (tier_at k n rest) (λ b. tail_at k n (bin o left b.0) b.1) (λ a. climbs c (suc k) n a.0 a.1)
    ∙ ap (λ m. tier_at k n rest >>= λ b. climbs m k n (bin o left b.0) b.1) m
by_more grouping.NotChained k c n left o rest width e h =
    let f : suc k ≡ k + 1 = omega arith in
    regroup (tier_at k n rest) (λ b. Ok (bin o left b.0, b.1)) (λ a. climbs c (suc k) n a.0 a.1)
    ∙ ap (λ j. tier_at k n rest >>= λ b. climbs c j n (bin o left b.0) b.1) f
    ∙ ap (λ m. tier_at k n rest >>= λ b. climbs m (k + 1) n (bin o left b.0) b.1) e
by_more grouping.ToRight k c n left o rest width e h =
    let f : suc k ≡ k + 1 = omega arith in
    regroup (tier_at (k + 1) n rest) (λ b. Ok (bin o left b.0, b.1)) (λ a. climbs c (suc k) n a.0 a.1)
    ∙ ap (λ j. tier_at (k + 1) n rest >>= λ b. climbs c j n (bin o left b.0) b.1) f
    ∙ ap (λ m. tier_at (k + 1) n rest >>= λ b. climbs m (k + 1) n (bin o left b.0) b.1) e

pub climb_more : (k width n : ℕ) (left : RawTerm) (toks : List Lexeme) (own : ℕ) (o : Op) (rest : List Lexeme) (g : Grouping) → n ≤ deepest → op_ahead toks ≡ Some (own, o, rest) → k ≤ own → own < width → grouping_of own ≡ g → climb_at k width n left toks ≡ climb_by g own width n left o rest
unfolding climb_at climbs Lack
climb_more k width n left toks own o rest g low e a b f =
    let c : ℕ = width - (own + 1) in
    let d : ℕ = own - k in
    let p : width - k ≡ d + suc c = omega arith in
    let q : k + d ≡ own = omega arith in
    ap (λ m. climbs m k n left toks) p
    ∙ skips d (suc c) k n left toks low (λ j x y. ahead_only toks own o rest e j (inl (omega arith)))
    ∙ ap (λ j. climbs (suc c) j n left toks) q
    ∙ ap (λ r. r >>= λ a. climbs c (suc own) n a.0 a.1) (tail_more own n left toks low ∙ ap (tail_turn (grouping_of own) (tier_at own n) (tier_at (own + 1) n) (tail_at own n) left toks) (ahead_is toks own o rest e))
    ∙ by_more (grouping_of own) own c n left o rest width refl b
    ∙ ap (λ h. climb_by h own width n left o rest) f

-- the right side of an operator and what may follow it, whichever way its tier groups
pub climbs_by_bounds : (g : Grouping) (k width n : ℕ) (left : RawTerm) (o : Op) (rest : List Lexeme) → climb_by g k width n left o rest ≡ climb_within (right_width g k) (next_from g k) width n left o rest
climbs_by_bounds grouping.ToLeft k width n left o rest = refl
climbs_by_bounds grouping.NotChained k width n left o rest = refl
climbs_by_bounds grouping.ToRight k width n left o rest = refl
