-- Draining does what settling does, with no more evaluations. Settling goes first: what it installs, draining may have to install
-- later, and owes at most that.
use Rattle.std.proofs.Common.{◌≡◌, ℕ, zero, suc, ◌+◌, ◌≤◌, Bool, true, false, not, ◌||◌, cond, List, [], ◌∷◌, map, length, Option, Some, None, refl, sym, ap, subst, ◌∙◌, arith}
use Rattle.std.specs.Prelude.{◌≢◌, is_some}
use Rattle.std.proofs.lemmas.Bool.{not-false}
use Rattle.stm_terms.specs.declared.verdicts.Verdict.{Verdict}
use Rattle.stm_terms.specs.declared.verdicts.Verdict.TheVariants.{Commits, Throws, Blocks}
use Rattle.stm_events.specs.declared.event.What.{What}
use Rattle.stm_events.specs.declared.event.What.TheVariants.{Installed, Finished}
use Rattle.stm_events.specs.SlowDesk.{Waiter, Slow, verdict_on, waking, is_blocks, is_current, find_waiter, without_waiter, delivered, after_writes, stale_after, after, Allows}
use Rattle.stm_events.specs.SlowSettle.{lowest, is_due, ends, can_end, installing, ending, next_what, has_cells, settling, Stop, NoRoom, NoCells, settle_stop, installs, AllBlock}
use Rattle.stm_events.specs.SlowDrain.{is_next, drain_of, next_drain, draining, drain_stop, Served, served, after_all, ServesAs, DrainsAsSettling}
use Rattle.stm_events.specs.Laws.{AreRising}
use Rattle.stm_events.specs.States.{ObservedWaiter, IsPossible, IsTypedState, observed}
use Rattle.stm_events.proofs.AlikeWaitersStay.{with_waiters, alike_to}
use Rattle.stm_events.proofs.DrainLists.{dues, dues_installed, dues_without, AllCurrent, all_current, no_dues, current_without, AreBehind, MayBeBehind, behind_itself, behind_installed, caught_up, behind_without, behind_marks, dues_marks, rest_alike, lowest_ends, next_none, next_due, next_end}
use Rattle.stm_events.proofs.CurrentHoldsNow.{fresh_without}
use Rattle.stm_events.proofs.Possible.{possible_after, had_without}
use Rattle.stm_events.proofs.Running.{running_more, running_ends, running_crowded, stopping_more, stopping_ends, stopping_full, stopping_crowded, same_run}
use Rattle.stm_events.proofs.SettlingAllowed.{lowest_found, lowest_none, IsAllowed, installs_next, ends_next, next_allowed}
use Rattle.stm_events.proofs.TypedStores.{typed_after, typed_verdict}

-- ---- what draining does next is allowed
right_of : (a b : Bool) → a ≡ false → (a || b) ≡ true → b ≡ true
right_of true b e h = cc
right_of false b e h = h

drain_one : (s : Slow) (w : Waiter) (b : Bool) → is_due w ≡ b → find_waiter w.ticket s.waiters ≡ Some w → is_next s.store w ≡ true
    → IsAllowed s (cond b (installing w.ticket (verdict_on s.store w.block)) (ending s w.ticket (verdict_on s.store w.block)))
drain_one s w true h f e = installs_next s w (verdict_on s.store w.block) f h refl
drain_one s w false h f e = ends_next s w (verdict_on s.store w.block) f h (right_of (is_due w) (can_end s.store w) h e) refl

drain_by : (s : Slow) (o : Option Waiter) → AreRising s.next 0 s.waiters → lowest (is_next s.store) s.waiters ≡ o → IsAllowed s (drain_of s o)
drain_by s None r e = tt
drain_by s (Some w) r e = let l = lowest_found (is_next s.store) s.next 0 s.waiters w r e in drain_one s w (is_due w) refl l.found l.holds

pub drain_allowed : (s : Slow) → AreRising s.next 0 s.waiters → IsAllowed s (next_drain s)
drain_allowed s r = drain_by s (lowest (is_next s.store) s.waiters) r refl

-- ---- the next events
abbrev finish_event : Slow → ℕ → Verdict → What
finish_event s t v = Finished t v (length s.store) (stale_after (waking s.rule s.store v) (without_waiter t s.waiters))

pub settle_installs : (s : Slow) (w : Waiter) (v : Verdict) → lowest is_due s.waiters ≡ Some w → verdict_on s.store w.block ≡ Some v → next_what s ≡ Some (Installed w.ticket v)
settle_installs s w v e q = rw (e, q) refl

pub settle_finishes : (s : Slow) (w : Waiter) (v : Verdict) → lowest is_due s.waiters ≡ None → lowest (can_end s.store) s.waiters ≡ Some w → verdict_on s.store w.block ≡ Some v → next_what s ≡ Some (finish_event s w.ticket v)
settle_finishes s w v n e q = rw (n, e, q) refl

pub settle_rests : (s : Slow) → lowest is_due s.waiters ≡ None → lowest (can_end s.store) s.waiters ≡ None → next_what s ≡ None
settle_rests s n e = rw (n, e) refl

pub drain_installs : (s : Slow) (w : Waiter) (v : Verdict) → lowest (is_next s.store) s.waiters ≡ Some w → is_due w ≡ true → verdict_on s.store w.block ≡ Some v → next_drain s ≡ Some (Installed w.ticket v)
drain_installs s w v e d q = rw (e, d, q) refl

pub drain_finishes : (s : Slow) (w : Waiter) (v : Verdict) → lowest (is_next s.store) s.waiters ≡ Some w → is_due w ≡ false → verdict_on s.store w.block ≡ Some v
    → next_drain s ≡ Some (Finished w.ticket v (length s.store) (stale_after (waking s.rule s.store v) (without_waiter w.ticket s.waiters)))
drain_finishes s w v e d q = rw (e, d, q) refl

pub drain_rests : (s : Slow) → lowest (is_next s.store) s.waiters ≡ None → next_drain s ≡ None
drain_rests s e = rw e refl

-- ---- the states of settling, and the waiting blocks of draining beside them
record Pair (s : Slow) (ds : List Waiter) : Type 0 where
  pub settled : IsPossible s
  pub typed : IsTypedState s
  pub drained : IsPossible (with_waiters s ds)
  pub drained_typed : IsTypedState (with_waiters s ds)
  pub each : AreBehind ds s.waiters

-- settling installs
pair_settled : (s : Slow) (ds : List Waiter) (t : ℕ) (v : Verdict) → Pair s ds → Allows s (Installed t v) → Pair (after s (Installed t v)) ds
pair_settled s ds t v p a = record {
  settled = possible_after s (Installed t v) p.settled a;
  typed = typed_after s (Installed t v) p.settled a tt p.typed;
  drained = p.drained;
  drained_typed = p.drained_typed;
  each = behind_installed t s.store ds s.waiters p.each;
}

-- draining installs
pair_drained : (s : Slow) (ds : List Waiter) (t : ℕ) (v : Verdict) → Pair s ds → AllCurrent s.waiters → Allows (with_waiters s ds) (Installed t v) → Pair s (delivered t s.store ds)
pair_drained s ds t v p c a = record {
  settled = p.settled;
  typed = p.typed;
  drained = possible_after (with_waiters s ds) (Installed t v) p.drained a;
  drained_typed = typed_after (with_waiters s ds) (Installed t v) p.drained a tt p.drained_typed;
  each = caught_up t s.store ds s.waiters p.each c;
}

-- both finish
abbrev finished_waiters : Slow → ℕ → Verdict → List Waiter → List Waiter
finished_waiters s t v ds = map (after_writes (waking s.rule s.store v)) (without_waiter t ds)

pair_finished : (s : Slow) (ds : List Waiter) (t : ℕ) (v : Verdict) → Pair s ds → AllCurrent s.waiters → Allows s (finish_event s t v) → Allows (with_waiters s ds) (finish_event (with_waiters s ds) t v)
    → Pair (after s (finish_event s t v)) (finished_waiters s t v ds)
pair_finished s ds t v p c a b = record {
  settled = possible_after s (finish_event s t v) p.settled a;
  typed = typed_after s (finish_event s t v) p.settled a tt p.typed;
  drained = possible_after (with_waiters s ds) (finish_event (with_waiters s ds) t v) p.drained b;
  drained_typed = typed_after (with_waiters s ds) (finish_event (with_waiters s ds) t v) p.drained b tt p.drained_typed;
  each =
      behind_marks (waking s.rule s.store v) s.store (without_waiter t ds) (without_waiter t s.waiters) (behind_without t ds s.waiters p.each) (current_without t s.waiters c)
      (fresh_without t s.store ds p.drained.unwoken) (fresh_without t s.store s.waiters p.settled.unwoken) (had_without t ds p.drained.evaluated) (had_without t s.waiters p.settled.evaluated);
}

dues_finished : (s : Slow) (ds : List Waiter) (t : ℕ) (v : Verdict) (k : ℕ) → Pair s ds → AllCurrent s.waiters → dues ds ≤ k → dues (finished_waiters s t v ds) ≤ dues (finished_waiters s t v s.waiters) + k
dues_finished s ds t v k p c l =
    let a = dues_marks (waking s.rule s.store v) s.store (without_waiter t ds) (without_waiter t s.waiters) (behind_without t ds s.waiters p.each) (current_without t s.waiters c)
    (fresh_without t s.store ds p.drained.unwoken) (fresh_without t s.store s.waiters p.settled.unwoken) (had_without t ds p.drained.evaluated) (had_without t s.waiters p.settled.evaluated) in
    let b = dues_without t ds in
    omega (arith, a, b, l)

-- ---- runs that come to the same, of which the first installs at most so many more
record Alike (d s : Slow) (k : ℕ) (ds ss : List What) (stop stop' : Option Stop) : Type 0 where
  pub stops : stop ≡ stop'
  pub finishes : served ds ≡ served ss
  pub store : (after_all d ds).store ≡ (after_all s ss).store
  pub fewer : installs ds ≤ installs ss + k
  pub observed : stop' ≡ None → observed (after_all d ds) ≡ observed (after_all s ss)
  pub all_block : stop' ≡ None → AllBlock (after_all d ds)

same_alike : (d s : Slow) (k : ℕ) (a a' b b' : List What) (p p' q q' : Option Stop) → a ≡ a' → b ≡ b' → p ≡ p' → q ≡ q' → Alike d s k a' b' p' q' → Alike d s k a b p q
same_alike d s k a a' b b' p p' q q' e f g h m = rw (e, f, g, h) m

by_settling : (d s : Slow) (k t : ℕ) (v : Verdict) (ds ss : List What) (stop stop' : Option Stop) → Alike d (after s (Installed t v)) (suc k) ds ss stop stop' → Alike d s k ds (Installed t v ∷ ss) stop stop'
by_settling d s k t v ds ss stop stop' m = record { stops = m.stops; finishes = m.finishes; store = m.store; fewer = omega (arith, m.fewer); observed = m.observed; all_block = m.all_block }

by_draining : (d s : Slow) (k t : ℕ) (v : Verdict) (ds ss : List What) (stop stop' : Option Stop) → Alike (after d (Installed t v)) s k ds ss stop stop' → Alike d s (suc k) (Installed t v ∷ ds) ss stop stop'
by_draining d s k t v ds ss stop stop' m = record { stops = m.stops; finishes = m.finishes; store = m.store; fewer = omega (arith, m.fewer); observed = m.observed; all_block = m.all_block }

by_finish : (d s : Slow) (k t n : ℕ) (v : Verdict) (l l' : List ℕ) (ds ss : List What) (stop stop' : Option Stop) → Alike (after d (Finished t v n l)) (after s (Finished t v n l')) k ds ss stop stop'
    → Alike d s k (Finished t v n l ∷ ds) (Finished t v n l' ∷ ss) stop stop'
by_finish d s k t n v l l' ds ss stop stop' m = record {
  stops = m.stops;
  finishes = ap (λ (xs : List Served). record { ticket = t; verdict = v; first_new = n } ∷ xs) m.finishes;
  store = m.store;
  fewer = m.fewer;
  observed = m.observed;
  all_block = m.all_block;
}

-- ---- the induction: on the room of settling, and within it on what draining owes
abbrev Goal : Slow → List Waiter → ℕ → ℕ → ℕ → Type 0
Goal s ds k r r' = Alike (with_waiters s ds) s k (draining r' (with_waiters s ds)) (settling r s) (drain_stop r' (with_waiters s ds)) (settle_stop r s)

abbrev At : ℕ → Type 0
At r = (s : Slow) (ds : List Waiter) (k r' : ℕ) → Pair s ds → dues ds ≤ dues s.waiters + k → r + k ≤ r' → settle_stop r s ≢ Some NoRoom → Goal s ds k r r'

abbrev Before : ℕ → Type 0
Before zero = Unit {0}
Before (suc r) = At r

abbrev Caught : ℕ → Slow → ℕ → Type 0
Caught r s k = (ds : List Waiter) (r' : ℕ) → Pair s ds → dues ds ≤ k → r + k ≤ r' → Goal s ds k r r'

abbrev CaughtBefore : ℕ → Slow → ℕ → Type 0
CaughtBefore r s zero = Unit {0}
CaughtBefore r s (suc k) = Caught r s k

ends_none : (o : Option Waiter) → MayBeBehind None o → o ≡ None
ends_none None m = refl
ends_none (Some w) m = absurd m

blocks_is : (v : Verdict) → not (is_blocks v) ≡ false → v ≡ Blocks
blocks_is (Commits writes news result) e = cc
blocks_is (Throws f) e = cc
blocks_is Blocks e = refl

rest_blocks : (s : Slow) → IsPossible s → IsTypedState s → lowest is_due s.waiters ≡ None → lowest (can_end s.store) s.waiters ≡ None → AllBlock s
rest_blocks s p k n m = λ t w f.
    let v = typed_verdict s t w p k f in (
      not-false (is_current w) (lowest_none is_due s.waiters t w n f),
      v.1 ∙ ap Some (blocks_is v.0 (ap ends (sym v.1) ∙ lowest_none (can_end s.store) s.waiters t w m f)),
    )

-- nothing is left to do
both_rest : (r : ℕ) (s : Slow) (k : ℕ) (ds : List Waiter) (r' : ℕ) → Pair s ds → lowest is_due s.waiters ≡ None → lowest (is_next s.store) ds ≡ None → Goal s ds k r r'
both_rest r s k ds r' p n e =
    let d = with_waiters s ds in
    let a = next_none s.store ds e in
    let m : lowest (can_end s.store) s.waiters ≡ None = ends_none (lowest (can_end s.store) s.waiters) (subst (λ (o : Option Waiter). MayBeBehind o (lowest (can_end s.store) s.waiters)) a.1 (lowest_ends s.store ds s.waiters p.each)) in
    let x : next_drain d ≡ None = drain_rests d e in
    let y : next_what s ≡ None = settle_rests s n m in
    let k' = rest_alike s.store ds s.waiters p.each (all_current ds a.0) p.drained.unwoken p.settled.unwoken p.drained.evaluated p.settled.evaluated in
    same_alike d s k (draining r' d) [] (settling r s) [] (drain_stop r' d) None (settle_stop r s) None (running_ends next_drain r' d x) (running_ends next_what r s y) (stopping_ends next_drain r' d x)
    (stopping_ends next_what r s y)
    (record {
      stops = refl;
      finishes = refl;
      store = refl;
      fewer = omega arith;
      observed = λ q. ap (λ (xs : List ObservedWaiter). record { rule = s.rule; store = s.store; names = s.names; next = s.next; waiters = xs }) (alike_to ds s.waiters k');
      all_block = λ q. rest_blocks d p.drained p.drained_typed a.0 a.1;
    })

-- draining catches up
drain_catches : (r : ℕ) (s : Slow) (k : ℕ) (ds : List Waiter) (r' : ℕ) (x : Waiter) → CaughtBefore r s k → Pair s ds → lowest is_due s.waiters ≡ None → dues ds ≤ k → r + k ≤ r' → lowest (is_next s.store) ds ≡ Some x → is_due x ≡ true → Goal s ds k r r'
drain_catches r s zero ds r' x more p n l m e h = absurd (let c = dues_installed s.store s.next 0 ds x p.drained.rising (next_due s.store ds x e h) in omega (arith, c, l))
drain_catches r s (suc k) ds zero x more p n l m e h = absurd (omega (arith, m))
drain_catches r s (suc k) ds (suc r') x more p n l m e h =
    let d = with_waiters s ds in
    let low = lowest_found (is_next s.store) s.next 0 ds x p.drained.rising e in
    let v = typed_verdict d x.ticket x p.drained p.drained_typed low.found in
    let next : next_drain d ≡ Some (Installed x.ticket v.0) = drain_installs d x v.0 e h v.1 in
    let allowed : Allows d (Installed x.ticket v.0) = subst (IsAllowed d) next (drain_allowed d p.drained.rising) refl in
    let count = dues_installed s.store s.next 0 ds x p.drained.rising (next_due s.store ds x e h) in
    let rest = more (delivered x.ticket s.store ds) r' (pair_drained s ds x.ticket v.0 p (all_current s.waiters n) allowed) (omega (arith, count, l)) (omega (arith, m)) in
    let d' = with_waiters s (delivered x.ticket s.store ds) in
    same_alike d s (suc k) (draining (suc r') d) (Installed x.ticket v.0 ∷ draining r' d') (settling r s) (settling r s) (drain_stop (suc r') d) (drain_stop r' d') (settle_stop r s) (settle_stop r s)
    (running_more next_drain (suc r') r' d (Installed x.ticket v.0) refl next refl) refl (stopping_more next_drain (suc r') r' d (Installed x.ticket v.0) refl next refl) refl
    (by_draining d s k x.ticket v.0 (draining r' d') (settling r s) (drain_stop r' d') (settle_stop r s) rest)

-- both finish, if the store has room
both_finish : (r : ℕ) (s : Slow) (k : ℕ) (ds : List Waiter) (r' t : ℕ) (v : Verdict) (b : Bool) → Before r → Pair s ds → lowest is_due s.waiters ≡ None → settle_stop r s ≢ Some NoRoom → dues ds ≤ k → r + k ≤ r'
    → next_what s ≡ Some (finish_event s t v) → next_drain (with_waiters s ds) ≡ Some (finish_event (with_waiters s ds) t v) → has_cells s (finish_event s t v) ≡ b → Goal s ds k r r'
both_finish zero s k ds r' t v b more p n h l m e f c = absurd (h (stopping_full next_what zero s refl (ap is_some e)))
both_finish (suc r) s k ds zero t v b more p n h l m e f c = absurd (omega (arith, m))
both_finish (suc r) s k ds (suc r') t v true more p n h l m e f c =
    let d = with_waiters s ds in
    let x = finish_event d t v in
    let y = finish_event s t v in
    let current = all_current s.waiters n in
    let allowed : Allows s y = subst (IsAllowed s) e (next_allowed s p.settled.rising) c in
    let allowed' : Allows d x = subst (IsAllowed d) f (drain_allowed d p.drained.rising) c in
    let s' = after s y in
    let ds' = finished_waiters s t v ds in
    let d' = with_waiters s' ds' in
    let rest : Goal s' ds' k r r' = more s' ds' k r' (pair_finished s ds t v p current allowed allowed') (dues_finished s ds t v k p current l) (omega (arith, m)) (λ q. h (stopping_more next_what (suc r) r s y refl e c ∙ q)) in
    same_alike d s k (draining (suc r') d) (x ∷ draining r' d') (settling (suc r) s) (y ∷ settling r s') (drain_stop (suc r') d) (drain_stop r' d') (settle_stop (suc r) s) (settle_stop r s')
    (running_more next_drain (suc r') r' d x refl f c) (running_more next_what (suc r) r s y refl e c) (stopping_more next_drain (suc r') r' d x refl f c) (stopping_more next_what (suc r) r s y refl e c)
    (by_finish d s k t (length s.store) v (stale_after (waking s.rule s.store v) (without_waiter t ds)) (stale_after (waking s.rule s.store v) (without_waiter t s.waiters)) (draining r' d') (settling r s') (drain_stop r' d') (settle_stop r s')
    rest)
both_finish (suc r) s k ds (suc r') t v false more p n h l m e f c =
    let d = with_waiters s ds in
    let x = finish_event d t v in
    let y = finish_event s t v in
    same_alike d s k (draining (suc r') d) [] (settling (suc r) s) [] (drain_stop (suc r') d) (Some NoCells) (settle_stop (suc r) s) (Some NoCells) (running_crowded next_drain (suc r') d x f c) (running_crowded next_what (suc r) s y e c)
    (stopping_crowded next_drain (suc r') d x (omega arith) f c) (stopping_crowded next_what (suc r) s y (omega arith) e c)
    (record { stops = refl; finishes = refl; store = refl; fewer = omega arith; observed = λ q. absurd cc; all_block = λ q. absurd cc })

pub verdict_by : (o : Option Verdict) → ends o ≡ true → (v : Verdict) × (o ≡ Some v)
verdict_by None h = absurd cc
verdict_by (Some v) h = (v, refl)

finish_found : (r : ℕ) (s : Slow) (k : ℕ) (ds : List Waiter) (r' : ℕ) (x : Waiter) (o : Option Waiter) → Before r → Pair s ds → lowest is_due s.waiters ≡ None → settle_stop r s ≢ Some NoRoom → dues ds ≤ k → r + k ≤ r'
    → lowest (is_next s.store) ds ≡ Some x → is_due x ≡ false → lowest (can_end s.store) s.waiters ≡ o → MayBeBehind (Some x) o → Goal s ds k r r'
finish_found r s k ds r' x None more p n h l m e c f b = absurd b
finish_found r s k ds r' x (Some w) more p n h l m e c f b =
    let d = with_waiters s ds in
    let low = lowest_found (can_end s.store) s.next 0 s.waiters w p.settled.rising f in
    let v = verdict_by (verdict_on s.store w.block) low.holds in
    let v' : verdict_on s.store x.block ≡ Some v.0 = ap (verdict_on s.store) b.block ∙ v.1 in
    let next : next_drain d ≡ Some (finish_event d w.ticket v.0) = subst (λ (t : ℕ). next_drain d ≡ Some (finish_event d t v.0)) b.ticket (drain_finishes d x v.0 e c v') in
    both_finish r s k ds r' w.ticket v.0 (has_cells s (finish_event s w.ticket v.0)) more p n h l m (settle_finishes s w v.0 n f v.1) next refl

drain_does : (r : ℕ) (s : Slow) (k : ℕ) (ds : List Waiter) (r' : ℕ) (x : Waiter) (b : Bool) → Before r → CaughtBefore r s k → Pair s ds → lowest is_due s.waiters ≡ None → settle_stop r s ≢ Some NoRoom → dues ds ≤ k → r + k ≤ r'
    → lowest (is_next s.store) ds ≡ Some x → is_due x ≡ b → Goal s ds k r r'
drain_does r s k ds r' x true before more p n h l m e c = drain_catches r s k ds r' x more p n l m e c
drain_does r s k ds r' x false before more p n h l m e c =
    finish_found r s k ds r' x (lowest (can_end s.store) s.waiters) before p n h l m e c refl
    (subst (λ (o : Option Waiter). MayBeBehind o (lowest (can_end s.store) s.waiters)) (next_end s.store ds x e c) (lowest_ends s.store ds s.waiters p.each))

drain_next : (r : ℕ) (s : Slow) (k : ℕ) (ds : List Waiter) (r' : ℕ) (o : Option Waiter) → Before r → CaughtBefore r s k → Pair s ds → lowest is_due s.waiters ≡ None → settle_stop r s ≢ Some NoRoom → dues ds ≤ k → r + k ≤ r'
    → lowest (is_next s.store) ds ≡ o → Goal s ds k r r'
drain_next r s k ds r' None before more p n h l m e = both_rest r s k ds r' p n e
drain_next r s k ds r' (Some x) before more p n h l m e = drain_does r s k ds r' x (is_due x) before more p n h l m e refl

-- none is new or stale to settling
caught : (r : ℕ) (s : Slow) (k : ℕ) → Before r → lowest is_due s.waiters ≡ None → settle_stop r s ≢ Some NoRoom → Caught r s k
caught r s zero before n h = λ ds r' p l m. drain_next r s zero ds r' (lowest (is_next s.store) ds) before tt p n h l m refl
caught r s (suc k) before n h = λ ds r' p l m. drain_next r s (suc k) ds r' (lowest (is_next s.store) ds) before (caught r s k before n h) p n h l m refl

-- settling installs, or none is new or stale to it
settle_next : (r : ℕ) (s : Slow) (ds : List Waiter) (k r' : ℕ) (o : Option Waiter) → Before r → Pair s ds → dues ds ≤ dues s.waiters + k → r + k ≤ r' → settle_stop r s ≢ Some NoRoom → lowest is_due s.waiters ≡ o → Goal s ds k r r'
settle_next r s ds k r' None before p l m h e = caught r s k before e h ds r' p (let z = no_dues s.waiters (all_current s.waiters e) in omega (arith, z, l)) m
settle_next zero s ds k r' (Some w) before p l m h e =
    let low = lowest_found is_due s.next 0 s.waiters w p.settled.rising e in
    let v = typed_verdict s w.ticket w p.settled p.typed low.found in
    absurd (h (stopping_full next_what zero s refl (ap is_some (settle_installs s w v.0 e v.1))))
settle_next (suc r) s ds k r' (Some w) before p l m h e =
    let d = with_waiters s ds in
    let low = lowest_found is_due s.next 0 s.waiters w p.settled.rising e in
    let v = typed_verdict s w.ticket w p.settled p.typed low.found in
    let y = Installed w.ticket v.0 in
    let next : next_what s ≡ Some y = settle_installs s w v.0 e v.1 in
    let allowed : Allows s y = subst (IsAllowed s) next (next_allowed s p.settled.rising) refl in
    let s' = after s y in
    let count = dues_installed s.store s.next 0 s.waiters w p.settled.rising e in
    let rest : Goal s' ds (suc k) r r' = before s' ds (suc k) r' (pair_settled s ds w.ticket v.0 p allowed) (omega (arith, count, l)) (omega (arith, m)) (λ q. h (stopping_more next_what (suc r) r s y refl next refl ∙ q)) in
    same_alike d s k (draining r' d) (draining r' d) (settling (suc r) s) (y ∷ settling r s') (drain_stop r' d) (drain_stop r' d) (settle_stop (suc r) s) (settle_stop r s') refl (running_more next_what (suc r) r s y refl next refl) refl
    (stopping_more next_what (suc r) r s y refl next refl)
    (by_settling d s k w.ticket v.0 (draining r' d) (settling r s') (drain_stop r' d) (settle_stop r s') rest)

both_run : (r : ℕ) → At r
both_run zero = λ s ds k r' p l m h. settle_next zero s ds k r' (lowest is_due s.waiters) tt p l m h refl
both_run (suc r) = λ s ds k r' p l m h. settle_next (suc r) s ds k r' (lowest is_due s.waiters) (both_run r) p l m h refl

-- ---- from the same state
pair_itself : (s : Slow) → IsPossible s → IsTypedState s → Pair s s.waiters
pair_itself s p t = record { settled = p; typed = t; drained = p; drained_typed = t; each = behind_itself s.waiters }

from_here : (s : Slow) (room room' : ℕ) → IsPossible s → IsTypedState s → room' ≤ room → settle_stop room' s ≢ Some NoRoom → Alike s s 0 (draining room s) (settling room' s) (drain_stop room s) (settle_stop room' s)
from_here s room room' p t l h = both_run room' s s.waiters 0 room (pair_itself s p t) (omega arith) (omega (arith, l)) h

-- whatever room draining has, if it is enough
from_any : (s : Slow) (room room' : ℕ) → IsPossible s → IsTypedState s → drain_stop room s ≢ Some NoRoom → settle_stop room' s ≢ Some NoRoom → Alike s s 0 (draining room s) (settling room' s) (drain_stop room s) (settle_stop room' s)
from_any s room room' p t h h' =
    let same = same_run next_drain room (room' + room) s (omega arith) h in
    same_alike s s 0 (draining room s) (draining (room' + room) s) (settling room' s) (settling room' s) (drain_stop room s) (drain_stop (room' + room) s) (settle_stop room' s) (settle_stop room' s) (sym same.whats) refl (sym same.stop) refl
    (from_here s (room' + room) room' p t (omega arith) h')

serves : (s : Slow) (room room' : ℕ) → IsPossible s → IsTypedState s → drain_stop room s ≢ Some NoRoom → settle_stop room' s ≢ Some NoRoom → ServesAs s (draining room s) (settling room' s)
serves s room room' p t h h' =
    let m = from_any s room room' p t h h' in
    record { finishes = m.finishes; store = m.store; evaluations = omega (arith, m.fewer) }

no_room : (o : Option Stop) → o ≡ None → o ≢ Some NoRoom
no_room o e = λ f. absurd cc

pub drains_as_settling : DrainsAsSettling
drains_as_settling = record {
  serves = serves;
  stops = λ s room room' p t h h'. (from_any s room room' p t h h').stops;
  rests = λ s room room' p t e e'.
      let m = from_any s room room' p t (no_room (drain_stop room s) e) (no_room (settle_stop room' s) e') in
      record { observed = m.observed e'; all_block = m.all_block e' };
  sooner = λ s room p t h. λ f. h (sym (from_here s room room p t (omega arith) h).stops ∙ f);
}
