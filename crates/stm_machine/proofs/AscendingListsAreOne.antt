-- Two rising lists with the same tickets are one list.
use Rattle.std.proofs.Common.{◌≡◌, ℕ, suc, ◌<◌, ◌≤◌, Bool, true, false, not, ◌&&◌, ◌||◌, cond, List, [], ◌∷◌, map, filter, Option, None, refl, sym, ap, ap₂, subst, ◌∙◌, arith, add-one}
use Rattle.std.specs.Prelude.{nat_eq, nat_lt}
use Rattle.std.specs.List.{list_any}
use Rattle.std.specs.List.Sorted.{IsStrictlyIncreasing}
use Rattle.std.proofs.lemmas.Bool.Decides.{nat_tests}
use Rattle.std.proofs.lemmas.Bool.{or_from, or_right}
use Rattle.stm_queue.specs.SortedTickets.{RisesAbove, IsRising, member}
use Rattle.stm_queue.proofs.SortedInsertion.{absent_above}
use Rattle.stm_queue.specs.Queue.{Entry, has_ticket, with_ticket}
use Rattle.stm_queue.proofs.Merging.{has_with}
use Rattle.stm_watch.specs.Pairs.{Pairs, watches}
use Rattle.stm_events.specs.SlowDesk.{Waiter, becomes_stale, stale_after, find_waiter, without_waiter}
use Rattle.stm_events.specs.Laws.{AreRising}
use Rattle.stm_events.proofs.Rising.{rising_without, waiter_without}
use Rattle.stm_waiting.specs.declared.waiting.Waiting.{Waiting}
use Rattle.stm_machine.specs.Entries.{AreKeptOf}
use Rattle.stm_machine.specs.Machine.{AreWatched}
use Rattle.stm_machine.proofs.QueueAndIndexByTicket.{stale_of, has_stale}
use Rattle.stm_machine.proofs.IndexFindsStale.{watches_stale}

itself : (i : ℕ) → nat_eq i i ≡ true
itself i = grind (arith, nat_tests)

-- ---- the first is in the other list, and so they are the same
not_lower : (x y : ℕ) (xs ys : List ℕ) → RisesAbove y ys → ((u : ℕ) → member u (x ∷ xs) ≡ member u (y ∷ ys)) → x < y → ⊥
not_lower x y xs ys s h l =
    let a : member x (y ∷ ys) ≡ false = absent_above x x (y ∷ ys) (omega arith) (l, s) in
    let b : (true || member x xs) ≡ member x (y ∷ ys) = ap (λ (b : Bool). b || member x xs) (sym (itself x)) ∙ h x in
    cc

first_same : (x y : ℕ) (xs ys : List ℕ) (a b : Bool) → nat_lt x y ≡ a → nat_lt y x ≡ b → RisesAbove x xs → RisesAbove y ys → ((u : ℕ) → member u (x ∷ xs) ≡ member u (y ∷ ys)) → x ≡ y
first_same x y xs ys true b e f r s h = let l : x < y = grind (arith, nat_tests) in absurd (not_lower x y xs ys s h l)
first_same x y xs ys false true e f r s h = let l : y < x = grind (arith, nat_tests) in absurd (not_lower y x ys xs r (λ u. sym (h u)) l)
first_same x y xs ys false false e f r s h = grind (arith, nat_tests)

rest_same : (x u : ℕ) (xs ys : List ℕ) (b : Bool) → nat_eq u x ≡ b → RisesAbove x xs → RisesAbove x ys → (b || member u xs) ≡ (b || member u ys) → member u xs ≡ member u ys
rest_same x u xs ys true e r s h =
    let l : u ≤ x = grind (arith, nat_tests) in
    absent_above u x xs l r ∙ sym (absent_above u x ys l s)
rest_same x u xs ys false e r s h = h

pub rising_same : (xs ys : List ℕ) → IsRising xs → IsRising ys → ((u : ℕ) → member u xs ≡ member u ys) → xs ≡ ys
rising_same [] [] r s h = refl
rising_same [] (y ∷ ys) r s h = let k : (true || member y ys) ≡ false = ap (λ (b : Bool). b || member y ys) (sym (itself y)) ∙ sym (h y) in absurd (cc)
rising_same (x ∷ xs) [] r s h = let k : (true || member x xs) ≡ false = ap (λ (b : Bool). b || member x xs) (sym (itself x)) ∙ h x in absurd (cc)
rising_same (x ∷ xs) (y ∷ ys) r s h =
    let e : x ≡ y = first_same x y xs ys (nat_lt x y) (nat_lt y x) refl refl r s h in
    let q : RisesAbove x ys = subst (λ (n : ℕ). RisesAbove n ys) (sym e) s in
    let g : (u : ℕ) → (nat_eq u x || member u xs) ≡ (nat_eq u x || member u ys) = λ u. h u ∙ ap (λ (n : ℕ). nat_eq u n || member u ys) (sym e) in
    ap₂ (λ (z : ℕ) (zs : List ℕ). z ∷ zs) e (rising_same xs ys (below x xs r) (below x ys q) (λ u. rest_same x u xs ys (nat_eq u x) refl r q (g u))) where
      below : (k : ℕ) (zs : List ℕ) → RisesAbove k zs → IsRising zs
      below k [] r = tt
      below k (z ∷ zs) r = r.1

rises_from : (x : ℕ) (xs : List ℕ) → IsStrictlyIncreasing (x ∷ xs) → RisesAbove x xs
rises_from x [] f = tt
rises_from x (y ∷ ys) f = (f 0 (omega arith), rises_from y ys (λ k h. let z = rw add-one at (f (suc k) (omega arith)) in rw add-one z))

pub rises : (xs : List ℕ) → IsStrictlyIncreasing xs → IsRising xs
rises [] f = tt
rises (x ∷ xs) f = rises_from x xs f

-- ---- what becomes stale rises
weaker : (j k : ℕ) (xs : List ℕ) → j ≤ k → RisesAbove k xs → RisesAbove j xs
weaker j k [] l r = tt
weaker j k (x ∷ xs) l r = let m : k < x = r.0 in (omega arith, r.1)

stale_above_step : (b : Bool) (k : ℕ) (woken : List ℕ) (w : Waiter) (ws : List Waiter) → k < w.ticket → RisesAbove w.ticket (stale_after woken ws)
    → RisesAbove k (map (λ x. x.ticket) (cond b (w ∷ filter (becomes_stale woken) ws) (filter (becomes_stale woken) ws)))
stale_above_step true k woken w ws l r = (l, r)
stale_above_step false k woken w ws l r = weaker k w.ticket (stale_after woken ws) (omega arith) r

stale_above : (n k : ℕ) (woken : List ℕ) (ws : List Waiter) → AreRising n k ws → RisesAbove k (stale_after woken ws)
stale_above n k woken [] r = tt
stale_above n k woken (w ∷ ws) r = stale_above_step (becomes_stale woken w) k woken w ws r.0 (stale_above n w.ticket woken ws r.2)

pub stale_rising : (n k : ℕ) (woken : List ℕ) (ws : List Waiter) → AreRising n k ws → IsRising (stale_after woken ws)
stale_rising n k woken ws r = above k (stale_after woken ws) (stale_above n k woken ws r) where
  above : (k : ℕ) (zs : List ℕ) → RisesAbove k zs → IsRising zs
  above k [] r = tt
  above k (z ∷ zs) r = r.1

-- ---- the tickets that watch the variables of a finish, without the one that finishes
without_bools : (d : Bool) (woken : List ℕ) (o : Option Waiter) → (not d && stale_of woken o) ≡ stale_of woken (cond d None o)
without_bools true woken o = refl
without_bools false woken o = refl

pub watched_stale : (watch : Pairs) (es : List (ℕ × Waiting)) (ws : List Waiter) (woken : List ℕ) (n t u : ℕ) → AreKeptOf es ws → AreWatched watch ws → AreRising n 0 ws
    → list_any (nat_eq u) (stale_after woken (without_waiter t ws)) ≡ (not (nat_eq u t) && watches watch woken u)
watched_stale watch es ws woken n t u d i r =
    has_stale u n 0 woken (without_waiter t ws) (rising_without t n 0 ws r) ∙ ap (stale_of woken) (waiter_without t u n 0 ws r)
    ∙ sym (ap (λ (b : Bool). not (nat_eq u t) && b) (watches_stale watch es ws woken u d i) ∙ without_bools (nat_eq u t) woken (find_waiter u ws))

pub stale_is : (watch : Pairs) (es : List (ℕ × Waiting)) (ws : List Waiter) (woken ts : List ℕ) (n t : ℕ) → AreKeptOf es ws → AreWatched watch ws → AreRising n 0 ws
    → IsRising ts → ((u : ℕ) → list_any (nat_eq u) ts ≡ (not (nat_eq u t) && watches watch woken u))
    → ts ≡ stale_after woken (without_waiter t ws)
stale_is watch es ws woken ts n t d i r inc h =
    rising_same ts (stale_after woken (without_waiter t ws)) inc (stale_rising n 0 woken (without_waiter t ws) (rising_without t n 0 ws r))
    (λ u. h u ∙ sym (watched_stale watch es ws woken n t u d i r))

-- ---- a ticket of a rising list is queued: the others are still to be queued
above_other : (u x : ℕ) (rest : List ℕ) (b : Bool) → nat_eq u x ≡ b → RisesAbove x rest → list_any (nat_eq u) rest ≡ true → b ≡ false
above_other u x rest true e r h = let l : u ≤ x = grind (arith, nat_tests) in let z : member u rest ≡ false = absent_above u x rest l r in cc
above_other u x rest false e r h = refl

pub queue_next : (x : ℕ) (rest : List ℕ) (es : List Entry) → IsRising (x ∷ rest) → ((u : ℕ) → list_any (nat_eq u) (x ∷ rest) ≡ true → has_ticket u es ≡ false)
    → (u : ℕ) → list_any (nat_eq u) rest ≡ true → has_ticket u (with_ticket x es) ≡ false
queue_next x rest es r absent u h =
    has_with u (x, false) es ∙ or_from (nat_eq u x) (has_ticket u es) (above_other u x rest (nat_eq u x) refl r h) (absent u (or_right (nat_eq u x) (list_any (nat_eq u) rest) h))

pub next_rising : (x : ℕ) (rest : List ℕ) → IsRising (x ∷ rest) → IsRising rest
next_rising x [] r = tt
next_rising x (y ∷ ys) r = r.1
