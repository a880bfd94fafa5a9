-- The pairs of the index as the table has them.
use Rattle.std.proofs.Common.{◌≡◌, ℕ, zero, suc, ◌+◌, ◌-◌, ◌<◌, Bool, true, false, ◌&&◌, ◌||◌, List, [], ◌∷◌, map, get_or, refl, ap, ap₂, ◌∙◌, arith}
use Rattle.std.specs.Prelude.{nat_eq, slice_get}
use Rattle.std.specs.List.{list_any}
use Rattle.std.proofs.Math.ListN.{set}
use Rattle.std.proofs.lemmas.List.Folds.{list_any-append}
use Rattle.std.proofs.lemmas.Bool.Decides.{nat_tests}
use Rattle.stm_queue.specs.SortedTickets.{member}
use Rattle.stm_watch.specs.declared.table.Slot.{Slot}
use Rattle.stm_watch.specs.declared.table.Table.{Table}
use Rattle.stm_watch.specs.Tabled.{watchers_in, watchers_found, tickets_at, pairs_from, pairs_of, holds, OtherVariablesStay}

-- the pair is in the list
abbrev pub lists : List (ℕ × ℕ) → ℕ → ℕ → Bool
lists keys v t = list_any (λ p. nat_eq v p.0 && nat_eq t p.1) keys

-- ---- a place that is written and had nothing
set_here : (w v : ℕ) (ws : List ℕ) (y : Slot) → nat_eq w v ≡ false → watchers_in w y ≡ [] → watchers_in w (record { number = v; watchers = ws }) ≡ watchers_in w y
set_here w v ws y h e = let n : nat_eq v w ≡ false = grind (arith, nat_tests) in rw (n, e) refl

set_found : (w v i q : ℕ) (ws : List ℕ) (s : List Slot) → nat_eq w v ≡ false → watchers_found w (slice_get s i) ≡ []
    → watchers_found w (slice_get (set s i (record { number = v; watchers = ws })) q) ≡ watchers_found w (slice_get s q)
set_found w v i q ws [] h e = refl
set_found w v zero zero ws (y ∷ s) h e = set_here w v ws y h e
set_found w v zero (suc q) ws (y ∷ s) h e = refl
set_found w v (suc i) zero ws (y ∷ s) h e = refl
set_found w v (suc i) (suc q) ws (y ∷ s) h e = set_found w v i q ws s h e

pub put_others : (v p : ℕ) (ws : List ℕ) (s : List Slot) → 0 < p → ((w : ℕ) → tickets_at w p s ≡ []) → OtherVariablesStay v s (set s (p - 1) (record { number = v; watchers = ws }))
put_others v zero ws s l e = absurd (omega arith)
put_others v (suc i) ws s l e = λ w p h. let is : suc i - 1 ≡ i = omega arith in rw is (other w p h) where
  other : (w p : ℕ) → nat_eq w v ≡ false → tickets_at w p (set s i (record { number = v; watchers = ws })) ≡ tickets_at w p s
  other w zero h = refl
  other w (suc q) h = set_found w v i q ws s h (e w)

-- ---- the list of pairs, and which are in it
listed_map : (n v t : ℕ) (ts : List ℕ) → lists (map (λ u. (n, u)) ts) v t ≡ (nat_eq v n && member t ts)
listed_map n v t [] = grind arith
listed_map n v t (u ∷ ts) = ap (λ (b : Bool). (nat_eq v n && nat_eq t u) || b) (listed_map n v t ts) ∙ joined (nat_eq v n) (nat_eq t u) (member t ts) where
  joined : (a b c : Bool) → ((a && b) || (a && c)) ≡ (a && (b || c))
  joined true b c = refl
  joined false b c = refl

none_below : (n v t : ℕ) (ps : List ℕ) (s : List Slot) → v < n → lists (pairs_from n ps s) v t ≡ false
none_below n v t [] s h = refl
none_below n v t (p ∷ ps) s h =
    let e : nat_eq v n ≡ false = grind (arith, nat_tests) in
    list_any-append (λ q. nat_eq v q.0 && nat_eq t q.1) (map (λ u. (n, u)) (tickets_at n p s)) (pairs_from (suc n) ps s)
    ∙ ap₂ (λ a b. a || b) (listed_map n v t (tickets_at n p s) ∙ ap (λ (b : Bool). b && member t (tickets_at n p s)) e) (none_below (suc n) v t ps s (omega arith))

or_none : (a : Bool) → (a || false) ≡ a
or_none true = refl
or_none false = refl

listed_from : (n v k t : ℕ) (ps : List ℕ) (s : List Slot) → v ≡ n + k → lists (pairs_from n ps s) v t ≡ member t (tickets_at v (get_or ps k 0) s)
listed_from n v k t [] s h = refl
listed_from n v zero t (p ∷ ps) s h =
    let e : nat_eq v n ≡ true = grind (arith, nat_tests) in
    let same : n ≡ v = omega arith in
    list_any-append (λ q. nat_eq v q.0 && nat_eq t q.1) (map (λ u. (n, u)) (tickets_at n p s)) (pairs_from (suc n) ps s)
    ∙ ap₂ (λ a b. a || b) (listed_map n v t (tickets_at n p s) ∙ ap (λ (b : Bool). b && member t (tickets_at n p s)) e) (none_below (suc n) v t ps s (omega arith))
    ∙ or_none (member t (tickets_at n p s)) ∙ ap (λ (m : ℕ). member t (tickets_at m p s)) same
listed_from n v (suc k) t (p ∷ ps) s h =
    let e : nat_eq v n ≡ false = grind (arith, nat_tests) in
    list_any-append (λ q. nat_eq v q.0 && nat_eq t q.1) (map (λ u. (n, u)) (tickets_at n p s)) (pairs_from (suc n) ps s)
    ∙ ap (λ (b : Bool). b || lists (pairs_from (suc n) ps s) v t) (listed_map n v t (tickets_at n p s) ∙ ap (λ (b : Bool). b && member t (tickets_at n p s)) e)
    ∙ listed_from (suc n) v k t ps s (omega arith)

pub lists_holds : (table : Table) (v t : ℕ) → lists (pairs_of table) v t ≡ holds table v t
lists_holds table v t = listed_from 0 v v t table.places.items table.slots.items (omega arith)
