-- What settling does next is allowed, if the store has room for its new variables.
use Rattle.std.proofs.Common.{◌≡◌, ℕ, ◌+◌, ◌<◌, ◌≤◌, Bool, true, false, cond, List, [], ◌∷◌, length, Option, Some, None, refl, sym, subst, arith}
use Rattle.std.specs.Prelude.{nat_eq, IsSomeAnd}
use Rattle.std.proofs.lemmas.Bool.Decides.{nat_tests}
use Rattle.std.proofs.lemmas.Bool.{not-false, not-true}
use Rattle.stm_terms.specs.declared.verdicts.Verdict.{Verdict}
use Rattle.stm_store.specs.Cells.{made_by}
use Rattle.stm_events.specs.declared.event.What.{What}
use Rattle.stm_events.specs.declared.event.What.TheVariants.{Finished}
use Rattle.stm_events.specs.SlowDesk.{Waiter, Slow, verdict_on, waking, is_blocks, is_current, find_waiter, without_waiter, stale_after, max_cells, MayInstall, MayFinish, Allows}
use Rattle.stm_events.specs.SlowSettle.{lowest, is_due, ends, can_end, installing, ending, next_of, next_what, has_cells}
use Rattle.stm_events.specs.Laws.{AreRising}

-- ---- the lowest waiting block of a test
-- it waits under its ticket
pub record IsLowest (p : Waiter → Bool) (k : ℕ) (ws : List Waiter) (w : Waiter) : Type 0 where
  pub above : k < w.ticket
  pub holds : p w ≡ true
  pub found : find_waiter w.ticket ws ≡ Some w

itself : (n : ℕ) → nat_eq n n ≡ true
itself n = grind (arith, nat_tests)

apart : (m n : ℕ) → n < m → nat_eq m n ≡ false
apart m n h = grind (arith, nat_tests)

lowest_first : (p : Waiter → Bool) (k : ℕ) (x : Waiter) (xs : List Waiter) (w : Waiter) (b : Bool) → p x ≡ b → k < x.ticket
    → (lowest p xs ≡ Some w → IsLowest p x.ticket xs w) → cond b (Some x) (lowest p xs) ≡ Some w → IsLowest p k (x ∷ xs) w
lowest_first p k x xs w true h a more e =
    let q : x ≡ w = cc in
    subst (IsLowest p k (x ∷ xs)) q (record { above = a; holds = h; found = rw (itself x.ticket) refl })
lowest_first p k x xs w false h a more e =
    let l = more e in
    let far : x.ticket < w.ticket = l.above in
    record { above = omega arith; holds = l.holds; found = rw (apart w.ticket x.ticket far) l.found }

pub lowest_found : (p : Waiter → Bool) (n k : ℕ) (ws : List Waiter) (w : Waiter) → AreRising n k ws → lowest p ws ≡ Some w → IsLowest p k ws w
lowest_found p n k [] w r e = absurd cc
lowest_found p n k (x ∷ xs) w r e = lowest_first p k x xs w (p x) refl r.0 (lowest_found p n x.ticket xs w r.2) e

none_first : (p : Waiter → Bool) (x : Waiter) (xs : List Waiter) (t : ℕ) (w : Waiter) (b c : Bool) → p x ≡ b → (lowest p xs ≡ None → find_waiter t xs ≡ Some w → p w ≡ false)
    → cond b (Some x) (lowest p xs) ≡ None → cond c (Some x) (find_waiter t xs) ≡ Some w → p w ≡ false
none_first p x xs t w true c h more e f = absurd cc
none_first p x xs t w false true h more e f = let q : x ≡ w = cc in subst (λ (y : Waiter). p y ≡ false) q h
none_first p x xs t w false false h more e f = more e f

-- if there is none, the test holds of none that waits
pub lowest_none : (p : Waiter → Bool) (ws : List Waiter) (t : ℕ) (w : Waiter) → lowest p ws ≡ None → find_waiter t ws ≡ Some w → p w ≡ false
lowest_none p [] t w e f = absurd cc
lowest_none p (x ∷ xs) t w e f = none_first p x xs t w (p x) (nat_eq t x.ticket) refl (lowest_none p xs t w) e f

-- ---- what settling does next
abbrev pub IsAllowed : Slow → Option What → Type 0
IsAllowed s None = Unit {0}
IsAllowed s (Some what) = has_cells s what ≡ true → Allows s what

pub installs_next : (s : Slow) (w : Waiter) (v : Option Verdict) → find_waiter w.ticket s.waiters ≡ Some w → is_due w ≡ true → verdict_on s.store w.block ≡ v → IsAllowed s (installing w.ticket v)
installs_next s w None f h e = tt
installs_next s w (Some v) f h e = λ room.
    let may : MayInstall s w v = record { not_current = not-true (is_current w) h; verdict_is = e } in
    subst (λ (o : Option Waiter). IsSomeAnd o (λ x. MayInstall s x v)) (sym f) may

room_by : (s : Slow) (t : ℕ) (v : Verdict) (stale : List ℕ) → has_cells s (Finished t v (length s.store) stale) ≡ true → length s.store + length (made_by v) ≤ max_cells
room_by s t v stale e = grind (arith, nat_tests)

pub ends_next : (s : Slow) (w : Waiter) (v : Option Verdict) → find_waiter w.ticket s.waiters ≡ Some w → is_due w ≡ false → ends v ≡ true → verdict_on s.store w.block ≡ v → IsAllowed s (ending s w.ticket v)
ends_next s w None f h g e = tt
ends_next s w (Some v) f h g e = λ room.
    let stale = stale_after (waking s.rule s.store v) (without_waiter w.ticket s.waiters) in
    let may : MayFinish s w.ticket w v (length s.store) stale = record {
      current = not-false (is_current w) h;
      verdict_is = e;
      ends = not-true (is_blocks v) g;
      first_new = refl;
      room = room_by s w.ticket v stale room;
      listed = refl;
    } in
    subst (λ (o : Option Waiter). IsSomeAnd o (λ x. MayFinish s w.ticket x v (length s.store) stale)) (sym f) may

next_by : (s : Slow) (o e : Option Waiter) → AreRising s.next 0 s.waiters → lowest is_due s.waiters ≡ o → lowest (can_end s.store) s.waiters ≡ e → IsAllowed s (next_of s o e)
next_by s (Some w) e r p q =
    let l = lowest_found is_due s.next 0 s.waiters w r p in
    installs_next s w (verdict_on s.store w.block) l.found l.holds refl
next_by s None (Some w) r p q =
    let l = lowest_found (can_end s.store) s.next 0 s.waiters w r q in
    ends_next s w (verdict_on s.store w.block) l.found (lowest_none is_due s.waiters w.ticket w p l.found) l.holds refl
next_by s None None r p q = tt

pub next_allowed : (s : Slow) → AreRising s.next 0 s.waiters → IsAllowed s (next_what s)
next_allowed s r = next_by s (lowest is_due s.waiters) (lowest (can_end s.store) s.waiters) r refl refl
