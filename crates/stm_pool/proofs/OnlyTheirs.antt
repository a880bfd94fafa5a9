-- A history with as many events as the passes have, of which each is its client's, has no others.
use Rattle.std.proofs.Common.{◌≡◌, ℕ, zero, suc, ◌+◌, ◌<◌, ◌≤◌, Bool, true, false, ◌==◌, nat_lt, List, [], ◌∷◌, length, Option, Some, refl, sym, ap, ◌∙◌, arith, subst}
use Rattle.std.proofs.lemmas.Bool.{and_from, eqb-true, false_from_ne_true}
use Rattle.std.proofs.lemmas.Bool.Decides.{nat_tests}
use Rattle.std.specs.Prelude.{if◌then◌else◌, IsSomeAnd}
use Rattle.stm_events.specs.declared.event.Event.{Event}
use Rattle.stm_pool.specs.Own.{Known, own_of, are_below, events_in_passes}
use Rattle.stm_pool.specs.Closing.{pass_of, AgreesWith, MayClose}

-- the events of n clients from c on, counted
abbrev pub sum_own : ℕ → ℕ → List Event → ℕ
sum_own c zero h = 0
sum_own c (suc n) h = length (own_of c h) + sum_own (c + 1) n h

left_out : (b : Bool) (e : Event) (os : List Event) → b ≡ false → length (if b then e ∷ os else os) ≡ length os
left_out true e os h = cc
left_out false e os h = refl

at_most_one : (b : Bool) (e : Event) (os : List Event) → length (if b then e ∷ os else os) ≤ length os + 1
at_most_one true e os = omega arith
at_most_one false e os = omega arith

-- an event of no such client isn't counted
uncounted : (c n : ℕ) (e : Event) (es : List Event) → ((k : ℕ) → k < n → c + k ≡ e.client → ⊥) → sum_own c n (e ∷ es) ≡ sum_own c n es
uncounted c zero e es apart = refl
uncounted c (suc n) e es apart =
    let other : (e.client == c) ≡ false = false_from_ne_true (e.client == c) (λ same. apart 0 (omega arith) (omega (arith, eqb-true e.client c same))) in
    let first = left_out (e.client == c) e (own_of c es) other in
    let rest = uncounted (c + 1) n e es (λ k l same. apart (suc k) (omega arith) (omega (arith, same))) in
    omega (arith, first, rest)

counted_at : (b : Bool) (c n : ℕ) (e : Event) (es : List Event) → (e.client == c) ≡ b → sum_own (c + 1) n (e ∷ es) ≤ sum_own (c + 1) n es + 1
    → sum_own c (suc n) (e ∷ es) ≤ sum_own c (suc n) es + 1
counted_at true c n e es is below =
    let same = eqb-true e.client c is in
    let first = at_most_one (e.client == c) e (own_of c es) in
    let rest = uncounted (c + 1) n e es (λ k l other. absurd (omega (arith, same, other))) in
    omega (arith, first, rest)
counted_at false c n e es is below =
    let first = left_out (e.client == c) e (own_of c es) is in omega (arith, first, below)

-- and one of such a client once
counted_once : (c n : ℕ) (e : Event) (es : List Event) → sum_own c n (e ∷ es) ≤ sum_own c n es + 1
counted_once c zero e es = omega arith
counted_once c (suc n) e es = counted_at (e.client == c) c n e es refl (counted_once (c + 1) n e es)

none_counted : (c n : ℕ) → sum_own c n [] ≡ 0
none_counted c zero = refl
none_counted c (suc n) = omega (arith, none_counted (c + 1) n)

no_more : (n : ℕ) (h : List Event) → sum_own 0 n h ≤ length h
no_more n [] = omega (arith, none_counted 0 n)
no_more n (e ∷ es) = omega (arith, counted_once 0 n e es, no_more n es)

below_at : (b : Bool) (n : ℕ) (e : Event) (es : List Event) → nat_lt e.client n ≡ b → sum_own 0 n (e ∷ es) ≡ length (e ∷ es)
    → (sum_own 0 n es ≡ length es → are_below n es ≡ true) → are_below n (e ∷ es) ≡ true
below_at true n e es is all rest = and_from _ _ is (rest (omega (arith, all, counted_once 0 n e es, no_more n es)))
below_at false n e es is all rest =
    let out = uncounted 0 n e es (λ k l same. grind (arith, nat_tests, is, l, same)) in
    absurd (omega (arith, all, out, no_more n es))

all_below : (n : ℕ) (h : List Event) → sum_own 0 n h ≡ length h → are_below n h ≡ true
all_below n [] all = refl
all_below n (e ∷ es) all = below_at (nat_lt e.client n) n e es refl all (all_below n es)

-- the passes without the client's first one
abbrev without_pass : ℕ → List Known → List Known
without_pass c [] = []
without_pass c (p ∷ ps) = if p.client == c then ps else p ∷ without_pass c ps

taken_step : (b : Bool) (c : ℕ) (h : List Event) (p : Known) (ps rest : List Known) (o : Option Known)
    → (IsSomeAnd o (λ q. own_of c h ≡ q.own) → (length ps ≡ length rest + 1) × (events_in_passes ps ≡ length (own_of c h) + events_in_passes rest))
    → IsSomeAnd (if b then Some p else o) (λ q. own_of c h ≡ q.own)
    → (length (p ∷ ps) ≡ length (if b then ps else p ∷ rest) + 1) × (events_in_passes (p ∷ ps) ≡ length (own_of c h) + events_in_passes (if b then ps else p ∷ rest))
taken_step true c h p ps rest o more a = (omega arith, omega (arith, ap length a))
taken_step false c h p ps rest o more a = let m = more a in (omega (arith, m.0), omega (arith, m.1))

-- one pass leaves, with its client's events
taken : (c : ℕ) (h : List Event) (ps : List Known) → AgreesWith h c ps
    → (length ps ≡ length (without_pass c ps) + 1) × (events_in_passes ps ≡ length (own_of c h) + events_in_passes (without_pass c ps))
taken c h [] a = absurd a
taken c h (p ∷ ps) a = taken_step (p.client == c) c h p ps (without_pass c ps) (pass_of c ps) (taken c h ps) a

skipped : (b : Bool) (p : Known) (o : Option Known) → b ≡ false → o ≡ (if b then Some p else o)
skipped true p o e = cc
skipped false p o e = refl

-- the other clients' passes stay
still : (c k : ℕ) (ps : List Known) → (k ≡ c → ⊥) → pass_of k (without_pass c ps) ≡ pass_of k ps
still c k [] apart = refl
still c k (p ∷ ps) apart = by (p.client == c) refl (still c k ps apart) where
  by : (b : Bool) → (p.client == c) ≡ b → pass_of k (without_pass c ps) ≡ pass_of k ps → pass_of k (if b then ps else p ∷ without_pass c ps) ≡ pass_of k (p ∷ ps)
  by true e more = skipped (p.client == k) p (pass_of k ps) (false_from_ne_true (p.client == k) (λ s. apart (sym (eqb-true p.client k s) ∙ eqb-true p.client c e)))
  by false e more = ap (λ (o : Option Known). if p.client == k then Some p else o) more

sum_of_passes : (n c : ℕ) (ps : List Known) (h : List Event) → length ps ≡ n → ((k : ℕ) → k < n → AgreesWith h (c + k) ps) → events_in_passes ps ≡ sum_own c n h
sum_of_passes zero c [] h len each = refl
sum_of_passes zero c (p ∷ ps) h len each = absurd (omega (arith, len))
sum_of_passes (suc n) c ps h len each =
    let first : AgreesWith h c ps = subst (λ (m : ℕ). AgreesWith h m ps) (omega arith) (each 0 (omega arith)) in
    let t = taken c h ps first in
    let rest = sum_of_passes n (c + 1) (without_pass c ps) h (omega (arith, t.0, len)) (λ k l.
    let a : AgreesWith h (c + 1 + k) ps = subst (λ (m : ℕ). AgreesWith h m ps) (omega arith) (each (suc k) (omega arith)) in
    subst (λ (o : Option Known). IsSomeAnd o (λ p. own_of (c + 1 + k) h ≡ p.own)) (sym (still c (c + 1 + k) ps (λ e. absurd (omega (arith, e))))) a) in
    omega (arith, t.1, rest)

pub only_theirs : (ps : List Known) (h : List Event) (n : ℕ) → MayClose h n ps → length h ≡ events_in_passes ps → are_below n h ≡ true
only_theirs ps h n may all =
    let sum = sum_of_passes n 0 ps h may.all.many (λ k l. subst (λ (m : ℕ). AgreesWith h m ps) (omega arith) (may.agree k l)) in
    all_below n h (omega (arith, sum, all))
