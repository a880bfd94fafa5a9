-- Waiting tickets rise, and stay below the next one.
use Rattle.std.proofs.Common.{◌≡◌, ℕ, ◌+◌, ◌<◌, ◌≤◌, Bool, true, false, cond, List, [], ◌∷◌, ◌++◌, map, length, Option, Some, None, refl, ap, arith, eqb-true}
use Rattle.std.specs.Prelude.{nat_eq, option_map}
use Rattle.std.proofs.lemmas.Bool.Decides.{nat_tests}
use Rattle.stm_store.specs.declared.cell.Cell.{Cell}
use Rattle.stm_store.specs.Tables.{Declared}
use Rattle.stm_events.specs.declared.event.Event.{Event}
use Rattle.stm_events.specs.declared.event.What.{What}
use Rattle.stm_events.specs.declared.event.What.TheVariants.{Submitted, Installed, Finished, Cancelled, Declared as DeclaredLate, Labelled}
use Rattle.stm_events.specs.declared.staleness.StalenessRule.{StalenessRule}
use Rattle.stm_events.specs.SlowDesk.{Waiter, Slow, waking, find_waiter, without_waiter, with_delivery, delivered, after_writes, after, Allows, initial_state, state_from, state_by, LegalFrom, IsLegalBy}
use Rattle.stm_events.specs.Laws.{AreRising, TicketsRise}

rising_from : (n k j : ℕ) (ws : List Waiter) → j ≤ k → AreRising n k ws → AreRising n j ws
rising_from n k j [] h r = tt
rising_from n k j (w ∷ ws) h r = let b : k < w.ticket = r.0 in (omega arith, r.1, r.2)

without_rising_cons : (b : Bool) (n k : ℕ) (w : Waiter) (ws vs : List Waiter) → AreRising n k (w ∷ ws) → AreRising n w.ticket vs → AreRising n k (cond b ws (w ∷ vs))
without_rising_cons true n k w ws vs r q = let b : k < w.ticket = r.0 in rising_from n w.ticket k ws (omega arith) r.2
without_rising_cons false n k w ws vs r q = (r.0, r.1, q)

pub rising_without : (t n k : ℕ) (ws : List Waiter) → AreRising n k ws → AreRising n k (without_waiter t ws)
rising_without t n k [] r = tt
rising_without t n k (w ∷ ws) r = without_rising_cons (nat_eq t w.ticket) n k w ws (without_waiter t ws) r (rising_without t n w.ticket ws r.2)

delivered_rising_cons : (b : Bool) (n k : ℕ) (v w : Waiter) (ws vs : List Waiter) → v.ticket ≡ w.ticket → AreRising n k (w ∷ ws) → AreRising n w.ticket vs → AreRising n k (cond b (v ∷ ws) (w ∷ vs))
delivered_rising_cons true n k v w ws vs e r q = rw e r
delivered_rising_cons false n k v w ws vs e r q = (r.0, r.1, q)

rising_delivered : (t n k : ℕ) (s : List Cell) (ws : List Waiter) → AreRising n k ws → AreRising n k (delivered t s ws)
rising_delivered t n k s [] r = tt
rising_delivered t n k s (w ∷ ws) r = delivered_rising_cons (nat_eq t w.ticket) n k (with_delivery s w) w ws (delivered t s ws) refl r (rising_delivered t n w.ticket s ws r.2)

pub rising_marks : (woken : List ℕ) (n k : ℕ) (ws : List Waiter) → AreRising n k ws → AreRising n k (map (after_writes woken) ws)
rising_marks woken n k [] r = tt
rising_marks woken n k (w ∷ ws) r = (r.0, r.1, rising_marks woken n w.ticket ws r.2)

rising_push : (n k : ℕ) (w : Waiter) (ws : List Waiter) → k < n → w.ticket ≡ n → AreRising n k ws → AreRising (n + 1) k (ws ++ w ∷ [])
rising_push n k w [] h e r = (omega arith, omega arith, tt)
rising_push n k w (v ∷ ws) h e r = let b : v.ticket < n = r.1 in (r.0, omega arith, rising_push n v.ticket w ws r.1 e r.2)

pub rising_after : (s : Slow) (d : What) → 0 < s.next → AreRising s.next 0 s.waiters → Allows s d → AreRising (after s d).next 0 (after s d).waiters
rising_after s (Submitted t b) p r a = rising_push s.next 0 _ s.waiters p a.0 r
rising_after s (Installed t v) p r a = rising_delivered t s.next 0 s.store s.waiters r
rising_after s (Finished t v n l) p r a = rising_marks (waking s.rule s.store v) s.next 0 (without_waiter t s.waiters) (rising_without t s.next 0 s.waiters r)
rising_after s (Cancelled t) p r a = rising_without t s.next 0 s.waiters r
rising_after s (DeclaredLate name kind value) p r a = r
rising_after s (Labelled t label) p r a = r

pub next_after : (s : Slow) (d : What) → 0 < s.next → 0 < (after s d).next
next_after s (Submitted t b) p = omega arith
next_after s (Installed t v) p = p
next_after s (Finished t v n l) p = p
next_after s (Cancelled t) p = p
next_after s (DeclaredLate name kind value) p = p
next_after s (Labelled t label) p = p

pub rising_all : (s : Slow) (es : List Event) → LegalFrom s es → 0 < s.next → AreRising s.next 0 s.waiters → AreRising (state_from s es).next 0 (state_from s es).waiters
rising_all s [] l p r = r
rising_all s (e ∷ es) l p r = rising_all (after s e.what) es l.1 (next_after s e.what p) (rising_after s e.what p r l.0.what)

pub rising_state : (rule : StalenessRule) (table : List Declared) (es : List Event) → IsLegalBy rule table es → AreRising (state_by rule table es).next 0 (state_by rule table es).waiters
rising_state rule table es l = rising_all (initial_state rule table) es l.each (omega arith) tt

-- tickets don't run out before the history
after_next : (s : Slow) (d : What) → (after s d).next ≤ s.next + 1
after_next s (Submitted t b) = omega arith
after_next s (Installed t v) = omega arith
after_next s (Finished t v n l) = omega arith
after_next s (Cancelled t) = omega arith
after_next s (DeclaredLate name kind value) = omega arith
after_next s (Labelled t label) = omega arith

pub next_le : (s : Slow) (es : List Event) → (state_from s es).next ≤ s.next + length es
next_le s [] = omega arith
next_le s (e ∷ es) = omega (arith, next_le (after s e.what) es, after_next s e.what)

pub tickets_rise : TicketsRise
tickets_rise rule table history l = record { rising = rising_state rule table history l; few = next_le (initial_state rule table) history }

-- ---- who waits under a ticket, after each change of the list
absent_above : (t n k : ℕ) (ws : List Waiter) → t ≤ k → AreRising n k ws → find_waiter t ws ≡ None
absent_above t n k [] h r = refl
absent_above t n k (w ∷ ws) h r =
    let b : k < w.ticket = r.0 in
    let e : nat_eq t w.ticket ≡ false = grind (arith, nat_tests) in
    rw e (absent_above t n w.ticket ws (omega arith) r.2)

same : (t u x : ℕ) → nat_eq u t ≡ true → nat_eq t x ≡ true → nat_eq u x ≡ true
same t u x h e = grind (arith, nat_tests)

unlike : (t u x : ℕ) → nat_eq u t ≡ true → nat_eq t x ≡ false → nat_eq u x ≡ false
unlike t u x h e = grind (arith, nat_tests)

differ : (t u x : ℕ) → nat_eq u t ≡ false → nat_eq t x ≡ true → nat_eq u x ≡ false
differ t u x h e = grind (arith, nat_tests)

without_here : (t u n k : ℕ) (b : Bool) (w : Waiter) (ws : List Waiter) → nat_eq u t ≡ true → nat_eq t w.ticket ≡ b → AreRising n k (w ∷ ws) → find_waiter u (without_waiter t ws) ≡ None → find_waiter u (cond b ws (w ∷ without_waiter t ws)) ≡ None
without_here t u n k true w ws h e r more = let q : u ≤ w.ticket = (let z = same t u w.ticket h e in grind (arith, nat_tests)) in absent_above u n w.ticket ws q r.2
without_here t u n k false w ws h e r more = rw (unlike t u w.ticket h e) more

gone_here : (t u n k : ℕ) (ws : List Waiter) → nat_eq u t ≡ true → AreRising n k ws → find_waiter u (without_waiter t ws) ≡ None
gone_here t u n k [] h r = refl
gone_here t u n k (w ∷ ws) h r = without_here t u n k (nat_eq t w.ticket) w ws h refl r (gone_here t u n w.ticket ws h r.2)

without_other : (t u : ℕ) (b : Bool) (w : Waiter) (ws : List Waiter) → nat_eq u t ≡ false → nat_eq t w.ticket ≡ b → find_waiter u (without_waiter t ws) ≡ find_waiter u ws → find_waiter u (cond b ws (w ∷ without_waiter t ws)) ≡ find_waiter u (w ∷ ws)
without_other t u true w ws h e more = rw (differ t u w.ticket h e)
without_other t u false w ws h e more = ap (λ (o : Option Waiter). cond (nat_eq u w.ticket) (Some w) o) more

others_stay : (t u : ℕ) (ws : List Waiter) → nat_eq u t ≡ false → find_waiter u (without_waiter t ws) ≡ find_waiter u ws
others_stay t u [] h = refl
others_stay t u (w ∷ ws) h = without_other t u (nat_eq t w.ticket) w ws h refl (others_stay t u ws h)

waiter_without_by : (t u n k : ℕ) (b : Bool) (ws : List Waiter) → nat_eq u t ≡ b → AreRising n k ws → find_waiter u (without_waiter t ws) ≡ cond b None (find_waiter u ws)
waiter_without_by t u n k true ws h r = gone_here t u n k ws h r
waiter_without_by t u n k false ws h r = others_stay t u ws h

pub waiter_without : (t u n k : ℕ) (ws : List Waiter) → AreRising n k ws → find_waiter u (without_waiter t ws) ≡ cond (nat_eq u t) None (find_waiter u ws)
waiter_without t u n k ws r = waiter_without_by t u n k (nat_eq u t) ws refl r

delivered_step : (t u : ℕ) (b d : Bool) (store : List Cell) (w : Waiter) (ws : List Waiter) → nat_eq u t ≡ d → nat_eq t w.ticket ≡ b
    → find_waiter u (delivered t store ws) ≡ cond d (option_map (with_delivery store) (find_waiter u ws)) (find_waiter u ws)
    → find_waiter u (cond b (with_delivery store w ∷ ws) (w ∷ delivered t store ws)) ≡ cond d (option_map (with_delivery store) (find_waiter u (w ∷ ws))) (find_waiter u (w ∷ ws))
delivered_step t u true true store w ws h e more = rw (same t u w.ticket h e)
delivered_step t u true false store w ws h e more = rw (differ t u w.ticket h e)
delivered_step t u false true store w ws h e more = rw (unlike t u w.ticket h e) more
delivered_step t u false false store w ws h e more = ap (λ (o : Option Waiter). cond (nat_eq u w.ticket) (Some w) o) more

nothing : (d : Bool) (store : List Cell) → None ≡ cond d (option_map (with_delivery store) None) None
nothing true store = refl
nothing false store = refl

pub waiter_delivered : (t u : ℕ) (store : List Cell) (ws : List Waiter) → find_waiter u (delivered t store ws) ≡ cond (nat_eq u t) (option_map (with_delivery store) (find_waiter u ws)) (find_waiter u ws)
waiter_delivered t u store [] = nothing (nat_eq u t) store
waiter_delivered t u store (w ∷ ws) = delivered_step t u (nat_eq t w.ticket) (nat_eq u t) store w ws refl refl (waiter_delivered t u store ws)

marks_step : (u : ℕ) (b : Bool) (woken : List ℕ) (w : Waiter) (ws : List Waiter) → find_waiter u (map (after_writes woken) ws) ≡ option_map (after_writes woken) (find_waiter u ws)
    → cond b (Some (after_writes woken w)) (find_waiter u (map (after_writes woken) ws)) ≡ option_map (after_writes woken) (cond b (Some w) (find_waiter u ws))
marks_step u true woken w ws more = refl
marks_step u false woken w ws more = more

pub waiter_marks : (u : ℕ) (woken : List ℕ) (ws : List Waiter) → find_waiter u (map (after_writes woken) ws) ≡ option_map (after_writes woken) (find_waiter u ws)
waiter_marks u woken [] = refl
waiter_marks u woken (w ∷ ws) = marks_step u (nat_eq u w.ticket) woken w ws (waiter_marks u woken ws)

push_step : (u n : ℕ) (b d : Bool) (v w : Waiter) (ws : List Waiter) → nat_eq u v.ticket ≡ d → nat_eq u w.ticket ≡ b → w.ticket < v.ticket
    → find_waiter u (ws ++ v ∷ []) ≡ cond d (Some v) (find_waiter u ws) → cond b (Some w) (find_waiter u (ws ++ v ∷ [])) ≡ cond d (Some v) (cond b (Some w) (find_waiter u ws))
push_step u n true true v w ws h e l more = absurd (grind (arith, nat_tests))
push_step u n true false v w ws h e l more = refl
push_step u n false true v w ws h e l more = more
push_step u n false false v w ws h e l more = more

pub waiter_push : (u n k : ℕ) (v : Waiter) (ws : List Waiter) → v.ticket ≡ n → AreRising n k ws → find_waiter u (ws ++ v ∷ []) ≡ cond (nat_eq u v.ticket) (Some v) (find_waiter u ws)
waiter_push u n k v [] e r = refl
waiter_push u n k v (w ∷ ws) e r =
    let b : w.ticket < n = r.1 in
    push_step u n (nat_eq u w.ticket) (nat_eq u v.ticket) v w ws refl refl (omega arith) (waiter_push u n w.ticket v ws e r.2)

-- a ticket at most k is none of tickets above k
pub not_above : (t n k : ℕ) (ws : List Waiter) → t ≤ k → AreRising n k ws → find_waiter t ws ≡ None
not_above t n k [] h r = refl
not_above t n k (w ∷ ws) h r =
    let b : k < w.ticket = r.0 in
    let e : nat_eq t w.ticket ≡ false = grind (arith, nat_tests) in
    rw e (not_above t n w.ticket ws (omega arith) r.2)

-- a waiting ticket is below the next one
low_step : (b : Bool) (t n : ℕ) (w one : Waiter) (o : Option Waiter) → nat_eq t w.ticket ≡ b → w.ticket < n → (o ≡ Some one → t < n) → cond b (Some w) o ≡ Some one → t < n
low_step true t n w one o e l more k = let q : t ≡ w.ticket = eqb-true t w.ticket e in omega arith
low_step false t n w one o e l more k = more k

pub low : (t n k : ℕ) (ws : List Waiter) (one : Waiter) → AreRising n k ws → find_waiter t ws ≡ Some one → t < n
low t n k [] one r e = cc
low t n k (w ∷ ws) one r e = low_step (nat_eq t w.ticket) t n w one (find_waiter t ws) refl r.1 (low t n w.ticket ws one r.2) e
