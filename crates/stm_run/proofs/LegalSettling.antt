-- Each event of settling is allowed, so the desk goes on standing.
use Rattle.std.proofs.Common.{◌≡◌, ℕ, zero, suc, ◌+◌, ◌-◌, ◌<◌, ◌≤◌, Bool, true, false, cond, ◌||◌, List, [], ◌∷◌, length, Option, Some, None, refl, sym, subst, arith, length-append}
use Rattle.std.specs.Prelude.{nat_eq, nat_le, IsSomeAnd}
use Rattle.std.proofs.lemmas.Bool.Decides.{nat_tests}
use Rattle.std.proofs.lemmas.Bool.{not-false, not-true}
use Rattle.stm_terms.specs.declared.verdicts.Verdict.{Verdict}
use Rattle.stm_store.specs.Cells.{made_by}
use Rattle.stm_events.specs.declared.event.What.{What}
use Rattle.stm_events.specs.declared.event.What.TheVariants.{Finished}
use Rattle.stm_events.specs.Laws.{AreRising, SubmitsWellTyped}
use Rattle.stm_machine.specs.Machine.{event}
use Rattle.stm_events.specs.SlowDesk.{Waiter, Slow, verdict_on, is_blocks, is_current, find_waiter, without_waiter, stale_after, waking, max_cells, after, Allows, MayInstall, MayFinish}
use Rattle.stm_events.specs.SlowSettle.{lowest, is_due, ends, can_end, installing, ending, next_of, Order, next_what, has_cells, settle_on, running}
use Rattle.stm_events.specs.SlowDrain.{is_next, drain_of, next_drain}
use Rattle.stm_desk.specs.DeskView.{DeskView, start_state, state_of, with_event}
use Rattle.stm_desk.specs.Settling.{with_whats}
use Rattle.stm_commands.specs.OpenDesk.{HandedOut}
use Rattle.stm_run.proofs.StandingDesk.{Stands, stands_sound, stands_event, state_later}

-- ---- the lowest waiting block of a test
-- it waits under its ticket
record IsLowest (p : Waiter → Bool) (k : ℕ) (ws : List Waiter) (w : Waiter) : Type 0 where
  pub above : k < w.ticket
  pub holds : p w ≡ true
  pub found : find_waiter w.ticket ws ≡ Some w

pub itself : (n : ℕ) → nat_eq n n ≡ true
itself n = grind (arith, nat_tests)

pub apart : (m n : ℕ) → n < m → nat_eq m n ≡ false
apart m n h = grind (arith, nat_tests)

lowest_first : (p : Waiter → Bool) (k : ℕ) (x : Waiter) (xs : List Waiter) (w : Waiter) (b : Bool) → p x ≡ b → k < x.ticket
    → (lowest p xs ≡ Some w → IsLowest p x.ticket xs w) → cond b (Some x) (lowest p xs) ≡ Some w → IsLowest p k (x ∷ xs) w
lowest_first p k x xs w true h a more e =
    let q : x ≡ w = cc in
    subst (IsLowest p k (x ∷ xs)) q (record { above = a; holds = h; found = rw (itself x.ticket) refl })
lowest_first p k x xs w false h a more e =
    let l = more e in
    let far : x.ticket < w.ticket = l.above in
    record { above = omega arith; holds = l.holds; found = rw (apart w.ticket x.ticket far) l.found }

lowest_there : (p : Waiter → Bool) (n k : ℕ) (ws : List Waiter) (w : Waiter) → AreRising n k ws → lowest p ws ≡ Some w → IsLowest p k ws w
lowest_there p n k [] w r e = absurd cc
lowest_there p n k (x ∷ xs) w r e = lowest_first p k x xs w (p x) refl r.0 (lowest_there p n x.ticket xs w r.2) e

-- if there is none, the test holds of none that waits
none_first : (p : Waiter → Bool) (x : Waiter) (xs : List Waiter) (t : ℕ) (w : Waiter) (b c : Bool) → p x ≡ b → (lowest p xs ≡ None → find_waiter t xs ≡ Some w → p w ≡ false)
    → cond b (Some x) (lowest p xs) ≡ None → cond c (Some x) (find_waiter t xs) ≡ Some w → p w ≡ false
none_first p x xs t w true c h more e f = absurd cc
none_first p x xs t w false true h more e f = let q : x ≡ w = cc in subst (λ (y : Waiter). p y ≡ false) q h
none_first p x xs t w false false h more e f = more e f

lowest_none : (p : Waiter → Bool) (ws : List Waiter) (t : ℕ) (w : Waiter) → lowest p ws ≡ None → find_waiter t ws ≡ Some w → p w ≡ false
lowest_none p [] t w e f = absurd cc
lowest_none p (x ∷ xs) t w e f = none_first p x xs t w (p x) (nat_eq t x.ticket) refl (lowest_none p xs t w) e f

-- ---- what settling does next
-- if the store has room for its new variables, it is allowed
abbrev pub IsAllowed : Slow → Option What → Type 0
IsAllowed s None = Unit {0}
IsAllowed s (Some what) = has_cells s what ≡ true → Allows s what × SubmitsWellTyped what

installs_next : (s : Slow) (w : Waiter) (v : Option Verdict) → find_waiter w.ticket s.waiters ≡ Some w → is_due w ≡ true → verdict_on s.store w.block ≡ v → IsAllowed s (installing w.ticket v)
installs_next s w None f h e = tt
installs_next s w (Some v) f h e = λ room.
    let may : MayInstall s w v = record { not_current = not-true (is_current w) h; verdict_is = e } in
    (subst (λ (o : Option Waiter). IsSomeAnd o (λ x. MayInstall s x v)) (sym f) may, tt)

room_by : (s : Slow) (t : ℕ) (v : Verdict) (stale : List ℕ) → has_cells s (Finished t v (length s.store) stale) ≡ true → length s.store + length (made_by v) ≤ max_cells
room_by s t v stale e = grind (arith, nat_tests)

ends_next : (s : Slow) (w : Waiter) (v : Option Verdict) → find_waiter w.ticket s.waiters ≡ Some w → is_due w ≡ false → ends v ≡ true → verdict_on s.store w.block ≡ v → IsAllowed s (ending s w.ticket v)
ends_next s w None f h g e = tt
ends_next s w (Some v) f h g e = λ room.
    let stale = stale_after (waking s.rule s.store v) (without_waiter w.ticket s.waiters) in
    let may : MayFinish s w.ticket w v (length s.store) stale = record {
      current = not-false (is_current w) h;
      verdict_is = e;
      ends = not-true (is_blocks v) g;
      first_new = refl;
      room = room_by s w.ticket v stale room;
      listed = refl;
    } in
    (subst (λ (o : Option Waiter). IsSomeAnd o (λ x. MayFinish s w.ticket x v (length s.store) stale)) (sym f) may, tt)

next_by : (s : Slow) (o e : Option Waiter) → AreRising s.next 0 s.waiters → lowest is_due s.waiters ≡ o → lowest (can_end s.store) s.waiters ≡ e → IsAllowed s (next_of s o e)
next_by s (Some w) e r p q =
    let l = lowest_there is_due s.next 0 s.waiters w r p in
    installs_next s w (verdict_on s.store w.block) l.found l.holds refl
next_by s None (Some w) r p q =
    let l = lowest_there (can_end s.store) s.next 0 s.waiters w r q in
    ends_next s w (verdict_on s.store w.block) l.found (lowest_none is_due s.waiters w.ticket w p l.found) l.holds refl
next_by s None None r p q = tt

pub next_allowed : (s : Slow) → AreRising s.next 0 s.waiters → IsAllowed s (next_what s)
next_allowed s r = next_by s (lowest is_due s.waiters) (lowest (can_end s.store) s.waiters) r refl refl

-- ---- what draining does next is allowed
right_of : (a b : Bool) → a ≡ false → (a || b) ≡ true → b ≡ true
right_of true b e h = cc
right_of false b e h = h

drain_one : (s : Slow) (w : Waiter) (b : Bool) → is_due w ≡ b → find_waiter w.ticket s.waiters ≡ Some w → is_next s.store w ≡ true
    → IsAllowed s (cond b (installing w.ticket (verdict_on s.store w.block)) (ending s w.ticket (verdict_on s.store w.block)))
drain_one s w true h f e = installs_next s w (verdict_on s.store w.block) f h refl
drain_one s w false h f e = ends_next s w (verdict_on s.store w.block) f h (right_of (is_due w) (can_end s.store w) h e) refl

drain_by : (s : Slow) (o : Option Waiter) → AreRising s.next 0 s.waiters → lowest (is_next s.store) s.waiters ≡ o → IsAllowed s (drain_of s o)
drain_by s None r e = tt
drain_by s (Some w) r e = let l = lowest_there (is_next s.store) s.next 0 s.waiters w r e in drain_one s w (is_due w) refl l.found l.holds

pub drain_allowed : (s : Slow) → AreRising s.next 0 s.waiters → IsAllowed s (next_drain s)
drain_allowed s r = drain_by s (lowest (is_next s.store) s.waiters) r refl

-- ---- all of it
not_full : (limit n room : ℕ) → suc room ≤ limit - n → nat_le limit n ≡ false
not_full limit n room h = let l : n < limit = omega arith in grind (arith, nat_tests)

-- an order of work of which each next thing is allowed
abbrev pub IsLawful : Order → Type 0
IsLawful next = (s : Slow) → AreRising s.next 0 s.waiters → IsAllowed s (next s)

abbrev StandsAfter : Order → ℕ → List HandedOut → Type 0
StandsAfter next room jobs = (d : DeskView) → room ≤ d.limit - length d.history → Stands d jobs → Stands (with_whats d 0 (running next room (state_of d))) jobs

runs_on : (next : Order) (room : ℕ) (d : DeskView) (jobs : List HandedOut) (o : Option What) → StandsAfter next room jobs → suc room ≤ d.limit - length d.history → IsAllowed (state_of d) o → Stands d jobs
    → Stands (with_whats d 0 (settle_on (running next room) (state_of d) o)) jobs
runs_on next room d jobs None more h a k = k
runs_on next room d jobs (Some what) more h a k = by (has_cells (state_of d) what) refl
  where
    by : (b : Bool) → has_cells (state_of d) what ≡ b → Stands (with_whats d 0 (cond b (what ∷ running next room (after (state_of d) what)) [])) jobs
    by false e = k
    by true e =
        let then = with_event d 0 what in
        let stood : Stands then jobs = stands_event d jobs what (not_full d.limit (length d.history) room h) (a e).0 (a e).1 k in
        let low : room ≤ then.limit - length then.history = omega (arith, length-append d.history (event 0 what ∷ []), h) in
        subst (λ (s : Slow). Stands (with_whats then 0 (running next room s)) jobs) (state_later (start_state d) d.history (event 0 what)) (more then low stood)

pub run_stands : (next : Order) → IsLawful next → (room : ℕ) (jobs : List HandedOut) → StandsAfter next room jobs
run_stands next lawful zero jobs d h k = k
run_stands next lawful (suc room) jobs d h k = runs_on next room d jobs (next (state_of d)) (run_stands next lawful room jobs) h (lawful (state_of d) (stands_sound d jobs k).possible.rising) k
