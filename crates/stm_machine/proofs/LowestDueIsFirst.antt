-- The lowest ticket that is new or stale is the first of the queue.
use Rattle.std.proofs.Common.{◌≡◌, ℕ, ◌<◌, ◌≤◌, Bool, true, false, not, ◌||◌, cond, List, [], ◌∷◌, map, filter, Option, Some, None, refl, sym, ap, subst, ◌∙◌, arith}
use Rattle.std.specs.Prelude.{nat_eq, nat_lt, slice_get, option_map}
use Rattle.std.proofs.lemmas.Bool.Decides.{nat_tests}
use Rattle.std.proofs.lemmas.Bool.{or_left}
use Rattle.stm_queue.specs.Queue.{Entry, has_ticket, tickets, queued}
use Rattle.stm_queue.specs.SortedTickets.{RisesAbove, IsRising}
use Rattle.stm_events.specs.SlowDesk.{Waiter, find_waiter}
use Rattle.stm_events.specs.SlowSettle.{lowest, is_due}
use Rattle.stm_events.specs.Laws.{AreRising}
use Rattle.stm_machine.specs.SettleChoices.{some_out}
use Rattle.stm_machine.specs.QueueAndIndex.{due_of, ArePending}
use Rattle.stm_events.proofs.Rising.{not_above}

itself : (i : ℕ) → nat_eq i i ≡ true
itself i = grind (arith, nat_tests)

-- the first ticket of the queue
abbrev pub first_ticket : List Entry → Option ℕ
first_ticket [] = None
first_ticket (e ∷ es) = Some e.0

-- ---- the block that a test finds is the one of its ticket
above_cons : (b : Bool) (k : ℕ) (w one : Waiter) (o : Option Waiter) → k < w.ticket → (o ≡ Some one → w.ticket < one.ticket) → cond b (Some w) o ≡ Some one → k < one.ticket
above_cons true k w one o h more e = let q : w ≡ one = cc in subst (λ (x : Waiter). k < x.ticket) q h
above_cons false k w one o h more e = let q = more e in omega arith

lowest_above : (p : Waiter → Bool) (n k : ℕ) (ws : List Waiter) (one : Waiter) → AreRising n k ws → lowest p ws ≡ Some one → k < one.ticket
lowest_above p n k [] one r e = cc
lowest_above p n k (w ∷ ws) one r e = above_cons (p w) k w one (lowest p ws) r.0 (lowest_above p n w.ticket ws one r.2) e

other : (t k : ℕ) → k < t → nat_eq t k ≡ false
other t k h = grind (arith, nat_tests)

waits_cons : (b : Bool) (w one : Waiter) (ws : List Waiter) (o : Option Waiter) → (o ≡ Some one → w.ticket < one.ticket) → (o ≡ Some one → find_waiter one.ticket ws ≡ Some one) → cond b (Some w) o ≡ Some one → find_waiter one.ticket (w ∷ ws) ≡ Some one
waits_cons true w one ws o above more e = let q : w ≡ one = cc in rw (q, itself one.ticket)
waits_cons false w one ws o above more e = rw (other one.ticket w.ticket (above e)) (more e)

pub lowest_waits : (p : Waiter → Bool) (n k : ℕ) (ws : List Waiter) (one : Waiter) → AreRising n k ws → lowest p ws ≡ Some one → find_waiter one.ticket ws ≡ Some one
lowest_waits p n k [] one r e = cc
lowest_waits p n k (w ∷ ws) one r e =
    waits_cons (p w) w one ws (lowest p ws) (lowest_above p n w.ticket ws one r.2) (lowest_waits p n w.ticket ws one r.2) e

holds_cons : (p : Waiter → Bool) (b : Bool) (w one : Waiter) (o : Option Waiter) → p w ≡ b → (o ≡ Some one → p one ≡ true) → cond b (Some w) o ≡ Some one → p one ≡ true
holds_cons p true w one o h more e = let q : w ≡ one = cc in subst (λ (x : Waiter). p x ≡ true) q h
holds_cons p false w one o h more e = more e

pub lowest_holds : (p : Waiter → Bool) (ws : List Waiter) (one : Waiter) → lowest p ws ≡ Some one → p one ≡ true
lowest_holds p [] one e = cc
lowest_holds p (w ∷ ws) one e = holds_cons p (p w) w one (lowest p ws) refl (lowest_holds p ws one) e

-- ---- no ticket that is due is below the lowest one
waits_above : (t n k : ℕ) (b : Bool) (ws : List Waiter) → AreRising n k ws → due_of (find_waiter t ws) ≡ true → k < t
waits_above t n k b ws r d = by (nat_lt k t) refl where
  by : (c : Bool) → nat_lt k t ≡ c → k < t
  by true e = grind (arith, nat_tests)
  by false e =
      let l : t ≤ k = grind (arith, nat_tests) in
      let m : due_of (find_waiter t ws) ≡ false = ap due_of (not_above t n k ws l r) in
      cc

due_step : (b d : Bool) (t n k : ℕ) (w one : Waiter) (ws : List Waiter) → is_due w ≡ b → nat_eq t w.ticket ≡ d → AreRising n k (w ∷ ws)
    → (lowest is_due ws ≡ Some one → due_of (find_waiter t ws) ≡ true → one.ticket ≤ t) → cond b (Some w) (lowest is_due ws) ≡ Some one → due_of (cond d (Some w) (find_waiter t ws)) ≡ true → one.ticket ≤ t
due_step true true t n k w one ws h e r more f q = let i : w ≡ one = cc in subst (λ (x : Waiter). x.ticket ≤ t) i (grind (arith, nat_tests))
due_step true false t n k w one ws h e r more f q =
    let i : w ≡ one = cc in
    let l : w.ticket < t = waits_above t n w.ticket true ws r.2 q in
    subst (λ (x : Waiter). x.ticket ≤ t) i (omega arith)
due_step false true t n k w one ws h e r more f q = cc
due_step false false t n k w one ws h e r more f q = more f q

due_from : (t n k : ℕ) (ws : List Waiter) (one : Waiter) → AreRising n k ws → lowest is_due ws ≡ Some one → due_of (find_waiter t ws) ≡ true → one.ticket ≤ t
due_from t n k [] one r f q = cc
due_from t n k (w ∷ ws) one r f q = due_step (is_due w) (nat_eq t w.ticket) t n k w one ws refl refl r (due_from t n w.ticket ws one r.2) f q

none_step : (b d : Bool) (t : ℕ) (w : Waiter) (ws : List Waiter) → is_due w ≡ b → (lowest is_due ws ≡ None → due_of (find_waiter t ws) ≡ false) → cond b (Some w) (lowest is_due ws) ≡ None → due_of (cond d (Some w) (find_waiter t ws)) ≡ false
none_step true d t w ws h more f = cc
none_step false true t w ws h more f = h
none_step false false t w ws h more f = more f

pub none_due : (t : ℕ) (ws : List Waiter) → lowest is_due ws ≡ None → due_of (find_waiter t ws) ≡ false
none_due t [] f = refl
none_due t (w ∷ ws) f = none_step (is_due w) (nat_eq t w.ticket) t w ws refl (none_due t ws) f

-- ---- the lowest ticket of the queue
over_step : (b : Bool) (k t : ℕ) (e : Entry) (es : List Entry) → nat_eq t e.0 ≡ b → k < e.0 → (has_ticket t es ≡ true → e.0 < t) → (b || has_ticket t es) ≡ true → k < t
over_step true k t e es q l more h = grind (arith, nat_tests)
over_step false k t e es q l more h = let m : e.0 < t = more h in omega arith

rises_over : (k t : ℕ) (es : List Entry) → RisesAbove k (tickets es) → has_ticket t es ≡ true → k < t
rises_over k t [] r h = cc
rises_over k t (e ∷ es) r h = over_step (nat_eq t e.0) k t e es refl r.0 (rises_over e.0 t es r.1) h

first_least : (t : ℕ) (e : Entry) (es : List Entry) → IsRising (tickets (e ∷ es)) → has_ticket t (e ∷ es) ≡ true → e.0 ≤ t
first_least t e es r h = by (nat_eq t e.0) refl h where
  by : (b : Bool) → nat_eq t e.0 ≡ b → (b || has_ticket t es) ≡ true → e.0 ≤ t
  by true q h = grind (arith, nat_tests)
  by false q h = let m : e.0 < t = rises_over e.0 t es r h in omega arith

head_by : (ps : List Entry) (ws : List Waiter) (n k : ℕ) (o : Option Waiter) → lowest is_due ws ≡ o → IsRising (tickets ps) → AreRising n k ws → ArePending ps ws → first_ticket ps ≡ option_map (λ w. w.ticket) o
head_by [] ws n k None f r s q = refl
head_by (e ∷ es) ws n k None f r s q =
    let a : has_ticket e.0 (e ∷ es) ≡ true = or_left (nat_eq e.0 e.0) (has_ticket e.0 es) (itself e.0) in
    let b : has_ticket e.0 (e ∷ es) ≡ false = q e.0 ∙ none_due e.0 ws f in
    cc
head_by [] ws n k (Some w) f r s q =
    let a : due_of (find_waiter w.ticket ws) ≡ true = ap due_of (lowest_waits is_due n k ws w s f) ∙ lowest_holds is_due ws w f in
    let b : false ≡ due_of (find_waiter w.ticket ws) = q w.ticket in
    cc
head_by (e ∷ es) ws n k (Some w) f r s q =
    let a : due_of (find_waiter w.ticket ws) ≡ true = ap due_of (lowest_waits is_due n k ws w s f) ∙ lowest_holds is_due ws w f in
    let b : e.0 ≤ w.ticket = first_least w.ticket e es r (q w.ticket ∙ a) in
    let c : due_of (find_waiter e.0 ws) ≡ true = sym (q e.0) ∙ or_left (nat_eq e.0 e.0) (has_ticket e.0 es) (itself e.0) in
    let d : w.ticket ≤ e.0 = due_from e.0 n k ws w s f c in
    let i : e.0 ≡ w.ticket = omega arith in
    ap Some i

-- the first ticket of the queue is the lowest that is new or stale
pub head_due : (ps : List Entry) (ws : List Waiter) (n k : ℕ) → IsRising (tickets ps) → AreRising n k ws → ArePending ps ws → first_ticket ps ≡ option_map (λ w. w.ticket) (lowest is_due ws)
head_due ps ws n k r s q = head_by ps ws n k (lowest is_due ws) refl r s q

-- ---- where no ticket is out, the first queued ticket is the first of all
left : (a b : Bool) → (a || b) ≡ false → a ≡ false
left true b h = cc
left false b h = refl

head_step : (o : Bool) (e : Entry) (es : List Entry) → o ≡ false → slice_get (map (λ (x : Entry). x.0) (cond (not o) (e ∷ es) es)) 0 ≡ Some e.0
head_step true e es h = cc
head_step false e es h = refl

-- then the first queued ticket is the first of all
pub head_queued : (es : List Entry) → some_out es ≡ false → slice_get (queued es) 0 ≡ first_ticket es
head_queued [] h = refl
head_queued (e ∷ es) h = head_step e.1 e (filter (λ x. not x.1) es) (left e.1 (some_out es) h)
