-- What an order of work does next, ticket by ticket.
use Rattle.std.proofs.Common.{◌≡◌, ℕ, ◌<◌, Bool, true, false, not, ◌||◌, ◌&&◌, cond, List, [], ◌∷◌, length, Option, Some, None, refl, sym, ap, subst, ◌∙◌, arith}
use Rattle.std.specs.Prelude.{nat_lt, option_map}
use Rattle.std.proofs.lemmas.Bool.Decides.{nat_tests}
use Rattle.std.proofs.lemmas.Bool.{and_from, lt-ltb, not-false}
use Rattle.stm_terms.specs.declared.verdicts.Verdict.{Verdict}
use Rattle.stm_store.specs.declared.cell.Cell.{Cell}
use Rattle.stm_events.specs.Laws.{AreRising}
use Rattle.stm_events.specs.Ready.{is_ready, next_ready}
use Rattle.stm_events.specs.declared.event.What.TheVariants.{Installed, Finished}
use Rattle.stm_events.specs.SlowDesk.{Waiter, Slow, verdict_on, waking, is_current, find_waiter, without_waiter, stale_after}
use Rattle.stm_events.specs.SlowSettle.{lowest, is_due, can_end}
use Rattle.stm_events.specs.SlowDrain.{is_next}
use Rattle.stm_events.specs.States.{IsPossible}
use Rattle.stm_events.proofs.Draining.{settle_installs, settle_finishes, settle_rests, drain_installs, drain_finishes, drain_rests}
use Rattle.stm_events.proofs.DrainLists.{next_none}
use Rattle.stm_events.proofs.Ready.{ready_finishes_next}
use Rattle.stm_events.proofs.SettlingAllowed.{lowest_found, lowest_none}
use Rattle.stm_machine.specs.QueueAndIndex.{due_of}
use Rattle.stm_machine.specs.SettleChoices.{next_due, next_end as next_settled}
use Rattle.stm_desk.specs.declared.settle.WorkOrder.{WorkOrder}
use Rattle.stm_desk.specs.declared.settle.WorkOrder.TheVariants.{Rounds, Lowest}
use Rattle.stm_desk.specs.Steps.{verdict_there, ready_there, InstallsNext, FinishesNext}
use Rattle.stm_desk.specs.WorkOrders.{order_of, ticket_if_due, due_in, end_in, unless_below}

-- ---- the blocks that come next
pub record Found (p : Waiter → Bool) (s : Slow) (t : ℕ) : Type 0 where
  pub one : Waiter
  pub first : lowest p s.waiters ≡ Some one
  pub ticket : one.ticket ≡ t

found_by : (p : Waiter → Bool) (s : Slow) (t : ℕ) (o : Option Waiter) → lowest p s.waiters ≡ o → option_map (λ w. w.ticket) o ≡ Some t → Found p s t
found_by p s t None e h = cc
found_by p s t (Some w) e h = let q : w.ticket ≡ t = cc in record { one = w; first = e; ticket = q }

pub found_at : (p : Waiter → Bool) (s : Slow) (t : ℕ) → option_map (λ w. w.ticket) (lowest p s.waiters) ≡ Some t → Found p s t
found_at p s t h = found_by p s t (lowest p s.waiters) refl h

pub none_at : (p : Waiter → Bool) (s : Slow) → option_map (λ w. w.ticket) (lowest p s.waiters) ≡ None → lowest p s.waiters ≡ None
none_at p s h = by (lowest p s.waiters) h where
  by : (o : Option Waiter) → option_map (λ w. w.ticket) o ≡ None → o ≡ None
  by None e = refl
  by (Some w) e = cc

found_there : (p : Waiter → Bool) (s : Slow) (t : ℕ) (w : Waiter) → IsPossible s → lowest p s.waiters ≡ Some w → w.ticket ≡ t → find_waiter t s.waiters ≡ Some w
found_there p s t w k f e = subst (λ (u : ℕ). find_waiter u s.waiters ≡ Some w) e (lowest_found p s.next 0 s.waiters w k.rising f).found

not_lower : (t u : ℕ) → t < u → nat_lt u t ≡ false
not_lower t u l = grind (arith, nat_tests)

-- ---- the lt-ltb one of the lowest that is new or stale and the lowest that could finish
abbrev tickets_of : Option Waiter → Option ℕ
tickets_of o = option_map (λ w. w.ticket) o

abbrev ready_above : List Cell → Waiter → Bool
ready_above store w = nat_lt 0 w.ticket && is_ready store w

abbrev pub if_lower : Option ℕ → Option ℕ → Option ℕ
if_lower None r = None
if_lower (Some t) r = unless_below t r

no_lower : (w : Waiter) (r : Option Waiter) → ((x : Waiter) → r ≡ Some x → w.ticket < x.ticket) → unless_below w.ticket (tickets_of r) ≡ Some w.ticket
no_lower w None above = refl
no_lower w (Some x) above = rw (not_lower w.ticket x.ticket (above x refl)) refl

all_lower : (w : Waiter) (d : Option Waiter) → ((x : Waiter) → d ≡ Some x → w.ticket < x.ticket) → if_lower (tickets_of d) (Some w.ticket) ≡ None
all_lower w None above = refl
all_lower w (Some x) above = rw (lt-ltb w.ticket x.ticket (above x refl)) refl

lower_step : (c b z : Bool) (w : Waiter) (d r n : Option Waiter) → is_due w ≡ not c → z ≡ true → ((x : Waiter) → d ≡ Some x → w.ticket < x.ticket) → ((x : Waiter) → r ≡ Some x → w.ticket < x.ticket)
    → if_lower (tickets_of d) (tickets_of r) ≡ ticket_if_due n
    → if_lower (tickets_of (cond (not c) (Some w) d)) (tickets_of (cond (z && (c && b)) (Some w) r)) ≡ ticket_if_due (cond (not c || b) (Some w) n)
lower_step c b false w d r n h z above above' more = absurd cc
lower_step false b true w d r n h z above above' more = rw h (no_lower w r above')
lower_step true true true w d r n h z above above' more = rw h (all_lower w d above)
lower_step true false true w d r n h z above above' more = more

due_lower : (store : List Cell) (n k : ℕ) (ws : List Waiter) → AreRising n k ws → if_lower (tickets_of (lowest is_due ws)) (tickets_of (lowest (ready_above store) ws)) ≡ ticket_if_due (lowest (is_next store) ws)
due_lower store n k [] r = refl
due_lower store n k (w ∷ ws) r =
    lower_step (is_current w) (can_end store w) (nat_lt 0 w.ticket) w (lowest is_due ws) (lowest (ready_above store) ws) (lowest (is_next store) ws) refl
    (lt-ltb 0 w.ticket (let l : k < w.ticket = r.0 in omega arith))
    (λ x e. (lowest_found is_due n w.ticket ws x r.2 e).above) (λ x e. (lowest_found (ready_above store) n w.ticket ws x r.2 e).above) (due_lower store n w.ticket ws r.2)

pub due_below : (s : Slow) → IsPossible s → if_lower (next_due s) (next_ready 0 s) ≡ due_in Lowest s
due_below s p = due_lower s.store s.next 0 s.waiters p.rising

end_step : (c b z : Bool) (w : Waiter) (r n : Option Waiter) → is_due w ≡ not c → z ≡ true → (ticket_if_due n ≡ None → tickets_of r ≡ tickets_of n) → ticket_if_due (cond (not c || b) (Some w) n) ≡ None
    → tickets_of (cond (z && (c && b)) (Some w) r) ≡ tickets_of (cond (not c || b) (Some w) n)
end_step c b false w r n h z more e = absurd cc
end_step false b true w r n h z more e = let q : Some w.ticket ≡ None = sym (ap (λ (x : Bool). cond x (Some w.ticket) None) h) ∙ e in absurd cc
end_step true true true w r n h z more e = refl
end_step true false true w r n h z more e = more e

end_lower : (store : List Cell) (n k : ℕ) (ws : List Waiter) → AreRising n k ws → ticket_if_due (lowest (is_next store) ws) ≡ None → tickets_of (lowest (ready_above store) ws) ≡ tickets_of (lowest (is_next store) ws)
end_lower store n k [] r e = refl
end_lower store n k (w ∷ ws) r e =
    end_step (is_current w) (can_end store w) (nat_lt 0 w.ticket) w (lowest (ready_above store) ws) (lowest (is_next store) ws) refl (lt-ltb 0 w.ticket (let l : k < w.ticket = r.0 in omega arith)) (end_lower store n w.ticket ws r.2) e

-- where the next thing isn't an evaluation, the lowest block that could finish is the next to finish
pub end_is_ready : (o : WorkOrder) (s : Slow) → IsPossible s → due_in o s ≡ None → next_ready 0 s ≡ end_in o s
end_is_ready Rounds s p e = ready_finishes_next s p.rising (none_at is_due s e)
end_is_ready Lowest s p e = end_lower s.store s.next 0 s.waiters p.rising e

-- ---- an evaluation that comes next
pub record InstallsAt (o : WorkOrder) (s : Slow) (t : ℕ) : Type 0 where
  pub due : due_of (find_waiter t s.waiters) ≡ true
  pub next : InstallsNext (order_of o) s t

some_verdict : (store : List Cell) (x : Option Waiter) (w : Waiter) (v : Verdict) → x ≡ Some w → verdict_there store x ≡ Some v → verdict_on store w.block ≡ Some v
some_verdict store x w v e f = sym (ap (verdict_there store) e) ∙ f

installs_rounds : (s : Slow) (t : ℕ) → IsPossible s → next_due s ≡ Some t → InstallsAt Rounds s t
installs_rounds s t p h =
    let f = found_at is_due s t h in
    let l = lowest_found is_due s.next 0 s.waiters f.one p.rising f.first in
    let there = found_there is_due s t f.one p f.first f.ticket in
    record {
      due = ap due_of there ∙ l.holds;
      next = λ v q. subst (λ (u : ℕ). order_of Rounds s ≡ Some (Installed u v)) f.ticket (settle_installs s f.one v f.first (some_verdict s.store (find_waiter t s.waiters) f.one v there q));
    }

record DueFound (s : Slow) (t : ℕ) : Type 0 where
  pub one : Waiter
  pub first : lowest (is_next s.store) s.waiters ≡ Some one
  pub due : is_due one ≡ true
  pub ticket : one.ticket ≡ t

due_found_if : (s : Slow) (t : ℕ) (w : Waiter) (b : Bool) → is_due w ≡ b → lowest (is_next s.store) s.waiters ≡ Some w → cond b (Some w.ticket) None ≡ Some t → DueFound s t
due_found_if s t w true h f e = let q : w.ticket ≡ t = cc in record { one = w; first = f; due = h; ticket = q }
due_found_if s t w false h f e = absurd cc

due_found : (s : Slow) (t : ℕ) (o : Option Waiter) → lowest (is_next s.store) s.waiters ≡ o → ticket_if_due o ≡ Some t → DueFound s t
due_found s t None f e = absurd cc
due_found s t (Some w) f e = due_found_if s t w (is_due w) refl f e

installs_lowest : (s : Slow) (t : ℕ) → IsPossible s → due_in Lowest s ≡ Some t → InstallsAt Lowest s t
installs_lowest s t p h =
    let f = due_found s t (lowest (is_next s.store) s.waiters) refl h in
    let there = found_there (is_next s.store) s t f.one p f.first f.ticket in
    record {
      due = ap due_of there ∙ f.due;
      next = λ v q. subst (λ (u : ℕ). order_of Lowest s ≡ Some (Installed u v)) f.ticket (drain_installs s f.one v f.first f.due (some_verdict s.store (find_waiter t s.waiters) f.one v there q));
    }

pub installs_at : (o : WorkOrder) (s : Slow) (t : ℕ) → IsPossible s → due_in o s ≡ Some t → InstallsAt o s t
installs_at Rounds s t p h = installs_rounds s t p h
installs_at Lowest s t p h = installs_lowest s t p h

-- ---- a finish that comes next
pub record FinishesAt (o : WorkOrder) (s : Slow) (t : ℕ) : Type 0 where
  pub ready : ready_there s.store (find_waiter t s.waiters) ≡ true
  pub next : FinishesNext (order_of o) s t

ready_by : (store : List Cell) (x : Option Waiter) (w : Waiter) → x ≡ Some w → is_due w ≡ false → can_end store w ≡ true → ready_there store x ≡ true
ready_by store x w e d c = ap (ready_there store) e ∙ and_from (is_current w) (can_end store w) (not-false (is_current w) d) c

finishes_rounds : (s : Slow) (t : ℕ) → IsPossible s → next_due s ≡ None → next_settled s ≡ Some t → FinishesAt Rounds s t
finishes_rounds s t p n h =
    let f = found_at (can_end s.store) s t h in
    let none = none_at is_due s n in
    let l = lowest_found (can_end s.store) s.next 0 s.waiters f.one p.rising f.first in
    let there = found_there (can_end s.store) s t f.one p f.first f.ticket in
    record {
      ready = ready_by s.store (find_waiter t s.waiters) f.one there (lowest_none is_due s.waiters t f.one none there) l.holds;
      next = λ v q.
          subst (λ (u : ℕ). order_of Rounds s ≡ Some (Finished u v (length s.store) (stale_after (waking s.rule s.store v) (without_waiter u s.waiters)))) f.ticket
          (settle_finishes s f.one v none f.first (some_verdict s.store (find_waiter t s.waiters) f.one v there q));
    }

not_due_by : (s : Slow) (w : Waiter) (b : Bool) → is_due w ≡ b → lowest (is_next s.store) s.waiters ≡ Some w → due_in Lowest s ≡ None → is_due w ≡ false
not_due_by s w false h f n = h
not_due_by s w true h f n =
    let q : Some w.ticket ≡ None = sym (ap (λ (x : Bool). cond x (Some w.ticket) None) h) ∙ sym (ap ticket_if_due f) ∙ n in absurd cc

right_of : (a b : Bool) → a ≡ false → (a || b) ≡ true → b ≡ true
right_of true b e h = cc
right_of false b e h = h

finishes_lowest : (s : Slow) (t : ℕ) → IsPossible s → due_in Lowest s ≡ None → end_in Lowest s ≡ Some t → FinishesAt Lowest s t
finishes_lowest s t p n h =
    let f = found_at (is_next s.store) s t h in
    let l = lowest_found (is_next s.store) s.next 0 s.waiters f.one p.rising f.first in
    let d = not_due_by s f.one (is_due f.one) refl f.first n in
    let there = found_there (is_next s.store) s t f.one p f.first f.ticket in
    record {
      ready = ready_by s.store (find_waiter t s.waiters) f.one there d (right_of (is_due f.one) (can_end s.store f.one) d l.holds);
      next = λ v q.
          subst (λ (u : ℕ). order_of Lowest s ≡ Some (Finished u v (length s.store) (stale_after (waking s.rule s.store v) (without_waiter u s.waiters)))) f.ticket
          (drain_finishes s f.one v f.first d (some_verdict s.store (find_waiter t s.waiters) f.one v there q));
    }

pub finishes_at : (o : WorkOrder) (s : Slow) (t : ℕ) → IsPossible s → due_in o s ≡ None → end_in o s ≡ Some t → FinishesAt o s t
finishes_at Rounds s t p n h = finishes_rounds s t p n h
finishes_at Lowest s t p n h = finishes_lowest s t p n h

-- ---- nothing is left to do
pub record RestsAt (o : WorkOrder) (s : Slow) : Type 0 where
  pub due : lowest is_due s.waiters ≡ None
  pub end : lowest (can_end s.store) s.waiters ≡ None
  pub next : order_of o s ≡ None

pub rests_at : (o : WorkOrder) (s : Slow) → due_in o s ≡ None → end_in o s ≡ None → RestsAt o s
rests_at Rounds s n h =
    let d = none_at is_due s n in
    let e = none_at (can_end s.store) s h in
    record { due = d; end = e; next = settle_rests s d e }
rests_at Lowest s n h =
    let none = none_at (is_next s.store) s h in
    let both_none = next_none s.store s.waiters none in
    record { due = both_none.0; end = both_none.1; next = drain_rests s none }
