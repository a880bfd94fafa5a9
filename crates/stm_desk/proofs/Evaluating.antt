-- The queued blocks, evaluated one after another.
use Rattle.std.proofs.Common.{◌≡◌, ℕ, zero, suc, ◌+◌, ◌<◌, ◌≤◌, Bool, true, false, not, ◌||◌, cond, List, [], ◌∷◌, ◌++◌, map, filter, take, drop, Option, Some, None, refl, sym, ap, subst, ◌∙◌, arith, add-one}
use Rattle.std.specs.Prelude.{nat_eq, slice_get, IsSome, Result, Ok, Err, IfOk, OnOk, OnErr}
use Rattle.std.proofs.lemmas.Bool.Decides.{nat_tests}
use Rattle.stm_terms.specs.declared.values.Value.{Value}
use Rattle.stm_terms.specs.declared.verdicts.Verdict.{Verdict}
use Rattle.stm_queue.specs.Queue.{Entry, tickets, has_ticket, queued, without_ticket}
use Rattle.stm_queue.specs.SortedTickets.{RisesAbove, IsRising}
use Rattle.stm_queue.proofs.Membership.{in_queue}
use Rattle.stm_events.specs.declared.errors.DeliverError.{DeliverError}
use Rattle.stm_events.specs.declared.errors.DeliverError.TheVariants.{HistoryFull}
use Rattle.stm_events.specs.declared.event.What.TheVariants.{Installed}
use Rattle.stm_machine.specs.Keeping.{IsVerdictUnder}
use Rattle.stm_machine.specs.Machine.{Parts, IsAt}
use Rattle.stm_machine.specs.QueueAndIndex.{due_of}
use Rattle.stm_events.specs.SlowDesk.{Waiter, Slow}
use Rattle.stm_machine.proofs.JobsHandedOut.{take_more}
use Rattle.stm_desk.specs.DeskView.{DeskView, state_of, is_full, with_event}
use Rattle.stm_desk.proofs.Turns.{store_install}
use Rattle.stm_desk.specs.Evaluating.{EvaluatedSoFar, with_evaluated, evaluate_unless, evaluate_each, none_evaluated, evaluate_lowest}

-- ---- the queue without its lowest ticket
unlike : (t u : ℕ) → t < u → nat_eq t u ≡ false
unlike t u l = grind (arith, nat_tests)

itself : (t : ℕ) → nat_eq t t ≡ true
itself t = grind (arith, nat_tests)

none_below : (t k : ℕ) (es : List Entry) → t ≤ k → RisesAbove k (tickets es) → without_ticket t es ≡ es
none_below t k [] l r = refl
none_below t k (e ∷ es) l r =
    let a : t < e.0 = (let b = r.0 in omega arith) in
    let c : t ≤ e.0 = omega arith in
    rw (unlike t e.0 a) (ap (λ (fs : List Entry). e ∷ fs) (none_below t e.0 es c r.1))

over_step : (b : Bool) (k t : ℕ) (e : Entry) (es : List Entry) → nat_eq t e.0 ≡ b → k < e.0 → (has_ticket t es ≡ true → e.0 < t) → (b || has_ticket t es) ≡ true → k < t
over_step true k t e es q l more h = grind (arith, nat_tests)
over_step false k t e es q l more h = let m : e.0 < t = more h in omega arith

above : (k t : ℕ) (es : List Entry) → RisesAbove k (tickets es) → has_ticket t es ≡ true → k < t
above k t [] r h = cc
above k t (e ∷ es) r h = over_step (nat_eq t e.0) k t e es refl r.0 (above e.0 t es r.1) h

rises : (k : ℕ) (es : List Entry) → RisesAbove k (tickets es) → IsRising (tickets es)
rises k [] r = tt
rises k (e ∷ es) r = r.1

apart : (t k : ℕ) → k < t → nat_eq t k ≡ false
apart t k l = grind (arith, nat_tests)

rest_here : (e : Entry) (es : List Entry) → RisesAbove e.0 (tickets es) → queued (without_ticket e.0 (e ∷ es)) ≡ queued es
rest_here e es r = rw (itself e.0) (ap queued (none_below e.0 e.0 es (omega arith) r))

rest_step : (o : Bool) (t : ℕ) (e : Entry) (es : List Entry) → e.1 ≡ o → RisesAbove e.0 (tickets es)
    → (slice_get (queued es) 0 ≡ Some t → queued (without_ticket t es) ≡ drop 1 (queued es))
    → slice_get (map (λ (x : Entry). x.0) (cond (not o) (e ∷ filter (λ x. not x.1) es) (filter (λ x. not x.1) es))) 0 ≡ Some t
    → queued (without_ticket t (e ∷ es)) ≡ drop 1 (map (λ (x : Entry). x.0) (cond (not o) (e ∷ filter (λ x. not x.1) es) (filter (λ x. not x.1) es)))
rest_step true t e es q r more h =
    let a : nat_eq t e.0 ≡ false = apart t e.0 (above e.0 t es r (in_queue t 0 es h)) in
    rw (a, q) (more h)
rest_step false t e es q r more h =
    let i : e.0 ≡ t = cc in
    subst (λ (u : ℕ). queued (without_ticket u (e ∷ es)) ≡ queued es) i (rest_here e es r)

queued_rest : (t : ℕ) (es : List Entry) → IsRising (tickets es) → slice_get (queued es) 0 ≡ Some t → queued (without_ticket t es) ≡ drop 1 (queued es)
queued_rest t [] r h = cc
queued_rest t (e ∷ es) r h = rest_step e.1 t e es refl r (queued_rest t es (rises e.0 es r)) h

-- ---- one block
pub kept_rest : {A E : Type 0} (d new : DeskView) (client t : ℕ) (v : Verdict) (r : Result A E) → OnOk r (new ≡ with_event d client (Installed t v))
    → IsRising (tickets d.pending) → slice_get (queued d.pending) 0 ≡ Some t → OnOk r (queued new.pending ≡ drop 1 (queued d.pending))
kept_rest d new client t v (Ok x) e r h = ap (λ (x : DeskView). queued x.pending) e ∙ queued_rest t d.pending r h
kept_rest d new client t v (Err x) e r h = tt

pub kept_store : {A E : Type 0} (d new : DeskView) (client t : ℕ) (v : Verdict) (r : Result A E) → OnOk r (new ≡ with_event d client (Installed t v)) → OnErr r (new ≡ d) → (state_of new).store ≡ (state_of d).store
kept_store d new client t v (Ok x) e f = store_install d new client t v e
kept_store d new client t v (Err x) e f = ap (λ (x : DeskView). (state_of x).store) f

-- ---- one block after another
drop_suc : (xs : List ℕ) (i : ℕ) → drop 1 (drop i xs) ≡ drop (suc i) xs
drop_suc [] zero = refl
drop_suc [] (suc i) = refl
drop_suc (x ∷ xs) zero = refl
drop_suc (x ∷ xs) (suc i) = drop_suc xs i

pub drop_more : (xs : List ℕ) (i : ℕ) → drop 1 (drop i xs) ≡ drop (i + 1) xs
drop_more xs i = rw add-one (drop_suc xs i)

pub first_dropped : (xs : List ℕ) (i : ℕ) → slice_get (drop i xs) 0 ≡ slice_get xs i
first_dropped [] zero = refl
first_dropped [] (suc i) = refl
first_dropped (x ∷ xs) zero = refl
first_dropped (x ∷ xs) (suc i) = first_dropped xs i

each_append : (client : ℕ) (p : EvaluatedSoFar) (xs ys : List ℕ) → evaluate_each client p (xs ++ ys) ≡ evaluate_each client (evaluate_each client p xs) ys
each_append client p [] ys = refl
each_append client p (x ∷ xs) ys = each_append client (evaluate_unless client p x p.stop) xs ys

stopped : (client : ℕ) (d : DeskView) (n : ℕ) (e : DeliverError) (ts : List ℕ) → evaluate_each client (record { desk = d; count = n; stop = Some e }) ts ≡ record { desk = d; count = n; stop = Some e }
stopped client d n e [] = refl
stopped client d n e (t ∷ ts) = stopped client d n e ts

abbrev at : DeskView → ℕ → Option DeliverError → EvaluatedSoFar
at d n stop = record { desk = d; count = n; stop = stop }

module _ (client : ℕ) (old mid : DeskView) (count : ℕ) (so_far : evaluate_lowest old client count ≡ at mid count None) where
  pub one_more : (new : DeskView) (t : ℕ) → slice_get (queued old.pending) count ≡ Some t → is_full mid ≡ false → new ≡ with_evaluated mid client t
      → evaluate_lowest old client (count + 1) ≡ at new (count + 1) None
  one_more new t h f e =
      ap (evaluate_each client (none_evaluated old)) (take_more (queued old.pending) count t h)
      ∙ each_append client (none_evaluated old) (take count (queued old.pending)) (t ∷ [])
      ∙ ap (λ (p : EvaluatedSoFar). evaluate_unless client p t p.stop) so_far
      ∙ rw f (ap (λ (d : DeskView). at d (count + 1) None) (sym e))

  pub no_room : (n t : ℕ) → slice_get (queued old.pending) count ≡ Some t → count < n → is_full mid ≡ true → at mid count (Some HistoryFull) ≡ evaluate_lowest old client n
  no_room n t h l f =
      let s = split (queued old.pending) count n t h l in
      sym (
      ap (evaluate_each client (none_evaluated old)) s.1
      ∙ each_append client (none_evaluated old) (take count (queued old.pending)) (t ∷ s.0)
      ∙ ap (λ (p : EvaluatedSoFar). evaluate_each client (evaluate_unless client p t p.stop) s.0) so_far
      ∙ rw f (stopped client mid count HistoryFull s.0)
      ) where
        split : (xs : List ℕ) (i n t : ℕ) → slice_get xs i ≡ Some t → i < n → (rest : List ℕ) × (take n xs ≡ take i xs ++ t ∷ rest)
        split [] i n t h l = cc
        split (x ∷ xs) i zero t h l = absurd (omega arith)
        split (x ∷ xs) zero (suc n) t h l = let q : x ≡ t = cc in (take n xs, ap (λ (y : ℕ). y ∷ take n xs) q)
        split (x ∷ xs) (suc i) (suc n) t h l = let s = split xs i n t h (omega arith) in (s.0, ap (λ (ys : List ℕ). x ∷ ys) s.1)

  pub none_left : (n : ℕ) → slice_get (drop count (queued old.pending)) 0 ≡ None → count ≤ n → evaluate_lowest old client n ≡ at mid count None
  none_left n e l = ap (evaluate_each client (none_evaluated old)) (all (queued old.pending) count n e l) ∙ so_far where
    all : (xs : List ℕ) (i n : ℕ) → slice_get (drop i xs) 0 ≡ None → i ≤ n → take n xs ≡ take i xs
    all [] zero zero e l = refl
    all [] zero (suc n) e l = refl
    all [] (suc i) zero e l = refl
    all [] (suc i) (suc n) e l = refl
    all (x ∷ xs) zero n e l = cc
    all (x ∷ xs) (suc i) zero e l = absurd (omega arith)
    all (x ∷ xs) (suc i) (suc n) e l = ap (λ (ys : List ℕ). x ∷ ys) (all xs i n e (omega arith))

-- what the machine says of a verdict, at the state that it is at
pub if_told : {E : Type 0} (s : Slow) (parts : Parts) (t : ℕ) (reads : List (ℕ × Value)) (r : Result Verdict E) → IsAt parts s
    → IfOk r (λ v. (s : Slow) → IsAt parts s → IsVerdictUnder s t v reads) → IfOk r (λ v. IsVerdictUnder s t v reads)
if_told s parts t reads (Ok v) k p = p s k
if_told s parts t reads (Err e) k p = tt

pub due_is_there : (o : Option Waiter) → due_of o ≡ true → IsSome o
due_is_there None h = cc
due_is_there (Some w) h = refl
