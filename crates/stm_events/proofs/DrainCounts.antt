-- How many blocks draining runs.
use Rattle.std.proofs.Common.{◌≡◌, ℕ, zero, suc, ◌+◌, Bool, true, false, not, ◌||◌, ◌&&◌, cond, List, [], ◌∷◌, map, filter, length, Option, Some, None, refl, sym, ap, subst, ◌∙◌, arith}
use Rattle.std.specs.Prelude.{nat_eq, is_some}
use Rattle.stm_terms.specs.declared.verdicts.Verdict.{Verdict}
use Rattle.stm_events.specs.declared.event.What.{What}
use Rattle.stm_events.specs.declared.event.What.TheVariants.{Installed, Finished}
use Rattle.stm_events.specs.SlowDesk.{Waiter, Slow, verdict_on, waking, is_current, becomes_stale, find_waiter, without_waiter, after_writes, stale_after, after, Allows}
use Rattle.stm_events.specs.SlowSettle.{lowest, is_due, can_end, has_cells, NoRoom, NoCells, installs}
use Rattle.stm_events.specs.SlowDrain.{is_next, next_drain, draining, drain_stop}
use Rattle.stm_events.specs.DrainCounts.{stales, DrainingRunsWhatIsDue}
use Rattle.stm_events.specs.States.{IsPossible, IsTypedState}
use Rattle.stm_events.proofs.DrainLists.{one_if, dues, dues_installed, all_current, no_dues, was_current, next_none, next_due}
use Rattle.stm_events.proofs.Draining.{drain_allowed, drain_installs, drain_finishes, drain_rests, verdict_by}
use Rattle.stm_events.proofs.Possible.{possible_after}
use Rattle.stm_events.proofs.Running.{running_more, running_ends, stopping_more, stopping_full, stopping_crowded}
use Rattle.stm_events.proofs.SettlingAllowed.{lowest_found, IsAllowed}
use Rattle.stm_events.proofs.TypedStores.{typed_after, typed_verdict}

-- ---- the two ways to count
count_step : (b : Bool) (w : Waiter) (ws : List Waiter) (n : ℕ) → length ws ≡ n → length (cond b (w ∷ ws) ws) ≡ one_if b + n
count_step true w ws n e = omega (arith, e)
count_step false w ws n e = omega (arith, e)

dues_are : (ws : List Waiter) → length (filter is_due ws) ≡ dues ws
dues_are [] = refl
dues_are (w ∷ ws) = count_step (is_due w) w (filter is_due ws) (dues ws) (dues_are ws)

-- ---- a finish
marked_by : (c d : Bool) → (not d ≡ false → not c ≡ false) → one_if (not d) ≡ one_if (not c) + one_if (c && not d)
marked_by true true f = refl
marked_by true false f = refl
marked_by false true f = let q : true ≡ false = f refl in absurd cc
marked_by false false f = refl

stale_step : (b : Bool) (w : Waiter) (ws : List Waiter) → length (map (λ (x : Waiter). x.ticket) (cond b (w ∷ ws) ws)) ≡ one_if b + length (map (λ (x : Waiter). x.ticket) ws)
stale_step true w ws = omega arith
stale_step false w ws = omega arith

dues_marked : (woken : List ℕ) (ws : List Waiter) → dues (map (after_writes woken) ws) ≡ dues ws + length (stale_after woken ws)
dues_marked woken [] = refl
dues_marked woken (w ∷ ws) =
    let one = marked_by (is_current w) (is_current (after_writes woken w)) (was_current woken w.block w.since) in
    let rest = dues_marked woken ws in
    let more = stale_step (becomes_stale woken w) w (filter (becomes_stale woken) ws) in
    omega (arith, one, rest, more)

without_step : (b : Bool) (x w : Waiter) (xs ys : List Waiter) (o : Option Waiter) → is_due w ≡ false → (o ≡ Some w → dues ys ≡ dues xs) → cond b (Some x) o ≡ Some w → dues (cond b xs (x ∷ ys)) ≡ one_if (is_due x) + dues xs
without_step true x w xs ys o d more e =
    let q : x ≡ w = cc in
    let h : is_due x ≡ false = subst (λ (y : Waiter). is_due y ≡ false) (sym q) d in
    rw h (omega arith)
without_step false x w xs ys o d more e = omega (arith, more e)

dues_kept : (t : ℕ) (ws : List Waiter) (w : Waiter) → find_waiter t ws ≡ Some w → is_due w ≡ false → dues (without_waiter t ws) ≡ dues ws
dues_kept t [] w e d = cc
dues_kept t (x ∷ xs) w e d = without_step (nat_eq t x.ticket) x w xs (without_waiter t xs) (find_waiter t xs) d (λ f. dues_kept t xs w f d) e

-- ---- a run
abbrev Counts : Slow → List What → Type 0
Counts s whats = installs whats ≡ dues s.waiters + stales whats

abbrev CountsAfter : ℕ → Type 0
CountsAfter room = (z : Slow) → IsPossible z → IsTypedState z → drain_stop room z ≡ None → Counts z (draining room z)

counts_none : (room : ℕ) (s : Slow) → lowest (is_next s.store) s.waiters ≡ None → Counts s (draining room s)
counts_none room s e =
    let n = no_dues s.waiters (all_current s.waiters (next_none s.store s.waiters e).0) in
    subst (Counts s) (sym (running_ends next_drain room s (drain_rests s e))) (omega (arith, n))

counts_install : (room : ℕ) (s : Slow) (x : Waiter) → CountsAfter room → IsPossible s → IsTypedState s → lowest (is_next s.store) s.waiters ≡ Some x → is_due x ≡ true → drain_stop (suc room) s ≡ None → Counts s (draining (suc room) s)
counts_install room s x more p k e h stop =
    let low = lowest_found (is_next s.store) s.next 0 s.waiters x p.rising e in
    let v = typed_verdict s x.ticket x p k low.found in
    let what = Installed x.ticket v.0 in
    let next : next_drain s ≡ Some what = drain_installs s x v.0 e h v.1 in
    let allowed : Allows s what = subst (IsAllowed s) next (drain_allowed s p.rising) refl in
    let count = dues_installed s.store s.next 0 s.waiters x p.rising (next_due s.store s.waiters x e h) in
    let rest = more (after s what) (possible_after s what p allowed) (typed_after s what p allowed tt k) (sym (stopping_more next_drain (suc room) room s what refl next refl) ∙ stop) in
    subst (Counts s) (sym (running_more next_drain (suc room) room s what refl next refl)) (omega (arith, count, rest))

counts_cells : (room : ℕ) (s : Slow) (x : Waiter) (v : Verdict) (b : Bool) → CountsAfter room → IsPossible s → IsTypedState s → find_waiter x.ticket s.waiters ≡ Some x → is_due x ≡ false
    → next_drain s ≡ Some (Finished x.ticket v (length s.store) (stale_after (waking s.rule s.store v) (without_waiter x.ticket s.waiters)))
    → has_cells s (Finished x.ticket v (length s.store) (stale_after (waking s.rule s.store v) (without_waiter x.ticket s.waiters))) ≡ b → drain_stop (suc room) s ≡ None → Counts s (draining (suc room) s)
counts_cells room s x v true more p k f h next c stop =
    let woken = waking s.rule s.store v in
    let ws = without_waiter x.ticket s.waiters in
    let what = Finished x.ticket v (length s.store) (stale_after woken ws) in
    let allowed : Allows s what = subst (IsAllowed s) next (drain_allowed s p.rising) c in
    let kept = dues_kept x.ticket s.waiters x f h in
    let marked = dues_marked woken ws in
    let rest = more (after s what) (possible_after s what p allowed) (typed_after s what p allowed tt k) (sym (stopping_more next_drain (suc room) room s what refl next c) ∙ stop) in
    subst (Counts s) (sym (running_more next_drain (suc room) room s what refl next c)) (omega (arith, kept, marked, rest))
counts_cells room s x v false more p k f h next c stop =
    let q : drain_stop (suc room) s ≡ Some NoCells = stopping_crowded next_drain (suc room) s (Finished x.ticket v (length s.store) (stale_after (waking s.rule s.store v) (without_waiter x.ticket s.waiters))) (omega arith) next c in
    absurd (cc)

right_of : (a b : Bool) → a ≡ false → (a || b) ≡ true → b ≡ true
right_of true b e h = cc
right_of false b e h = h

counts_does : (room : ℕ) (s : Slow) (x : Waiter) (b : Bool) → CountsAfter room → IsPossible s → IsTypedState s → lowest (is_next s.store) s.waiters ≡ Some x → is_due x ≡ b → drain_stop (suc room) s ≡ None → Counts s (draining (suc room) s)
counts_does room s x true more p k e h stop = counts_install room s x more p k e h stop
counts_does room s x false more p k e h stop =
    let low = lowest_found (is_next s.store) s.next 0 s.waiters x p.rising e in
    let v = verdict_by (verdict_on s.store x.block) (right_of (is_due x) (can_end s.store x) h low.holds) in
    counts_cells room s x v.0 _ more p k low.found h (drain_finishes s x v.0 e h v.1) refl stop

counts_next : (room : ℕ) (s : Slow) (o : Option Waiter) → CountsAfter room → IsPossible s → IsTypedState s → lowest (is_next s.store) s.waiters ≡ o → drain_stop (suc room) s ≡ None → Counts s (draining (suc room) s)
counts_next room s None more p k e stop = counts_none (suc room) s e
counts_next room s (Some x) more p k e stop = counts_does room s x (is_due x) more p k e refl stop

-- with no room left there is nothing left
some_next : (s : Slow) (x : Waiter) (b : Bool) → IsPossible s → IsTypedState s → lowest (is_next s.store) s.waiters ≡ Some x → is_due x ≡ b → is_some (next_drain s) ≡ true
some_next s x true p k e h =
    let low = lowest_found (is_next s.store) s.next 0 s.waiters x p.rising e in
    let v = typed_verdict s x.ticket x p k low.found in
    ap is_some (drain_installs s x v.0 e h v.1)
some_next s x false p k e h =
    let low = lowest_found (is_next s.store) s.next 0 s.waiters x p.rising e in
    let v = verdict_by (verdict_on s.store x.block) (right_of (is_due x) (can_end s.store x) h low.holds) in
    ap is_some (drain_finishes s x v.0 e h v.1)

counts_zero : (s : Slow) (o : Option Waiter) → IsPossible s → IsTypedState s → lowest (is_next s.store) s.waiters ≡ o → drain_stop zero s ≡ None → Counts s (draining zero s)
counts_zero s None p k e stop = counts_none zero s e
counts_zero s (Some x) p k e stop =
    let q : drain_stop zero s ≡ Some NoRoom = stopping_full next_drain zero s refl (some_next s x (is_due x) p k e refl) in
    absurd (cc)

counts : (room : ℕ) → CountsAfter room
counts zero = λ s p k stop. counts_zero s (lowest (is_next s.store) s.waiters) p k refl stop
counts (suc room) = λ s p k stop. counts_next room s (lowest (is_next s.store) s.waiters) (counts room) p k refl stop

pub draining_runs_what_is_due : DrainingRunsWhatIsDue
draining_runs_what_is_due s room p k stop = counts room s p k stop ∙ ap (λ (n : ℕ). n + stales (draining room s)) (sym (dues_are s.waiters))
