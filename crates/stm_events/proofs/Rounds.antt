-- Settling begins with a round.
use Rattle.std.proofs.Common.{◌≡◌, ℕ, zero, suc, ◌-◌, ◌<◌, ◌≤◌, Bool, true, false, cond, List, [], ◌∷◌, ◌++◌, map, take, length, Option, Some, None, refl, sym, ap, subst, ◌∙◌, arith}
use Rattle.std.specs.Prelude.{nat_eq, is_some}
use Rattle.std.proofs.lemmas.Bool.Decides.{nat_tests}
use Rattle.std.proofs.lemmas.List.{append_assoc, append-nil}
use Rattle.stm_terms.specs.declared.verdicts.Verdict.{Verdict}
use Rattle.stm_store.specs.declared.cell.Cell.{Cell}
use Rattle.stm_events.specs.declared.event.What.{What}
use Rattle.stm_events.specs.declared.event.What.TheVariants.{Installed}
use Rattle.stm_events.specs.SlowDesk.{Slow, Waiter, verdict_on, looked_on, intersects, with_delivery, delivered}
use Rattle.stm_events.specs.SlowSettle.{lowest, is_due, installing, next_what, settling}
use Rattle.stm_events.specs.Laws.{AreRising}
use Rattle.stm_events.proofs.Possible.{some_verdict}
use Rattle.stm_events.specs.Rounds.{if_some, round_installs, delivered_if_due, from_finish, HaveVerdicts, SettlingIsRounds}

-- none of them is new or stale, and their tickets are below this one
abbrev AreBefore : ℕ → List Waiter → Type 0
AreBefore t [] = Unit {0}
AreBefore t (w ∷ ws) = (is_due w ≡ false) × (w.ticket < t) × AreBefore t ws

before-push : (t u : ℕ) (ws : List Waiter) (w : Waiter) → t ≤ u → AreBefore t ws → is_due w ≡ false → w.ticket < u → AreBefore u (ws ++ w ∷ [])
before-push t u [] w l b d k = (d, k, tt)
before-push t u (x ∷ ws) w l b d k = let m : x.ticket < t = b.1 in (b.0, omega arith, before-push t u ws w l b.2 d k)

weaker : (t u : ℕ) (ws : List Waiter) → t ≤ u → AreBefore t ws → AreBefore u ws
weaker t u [] l b = tt
weaker t u (w ∷ ws) l b = let m : w.ticket < t = b.1 in (b.0, omega arith, weaker t u ws l b.2)

-- the first that is due is after them
lowest_past : (t : ℕ) (xs ys : List Waiter) → AreBefore t xs → lowest is_due (xs ++ ys) ≡ lowest is_due ys
lowest_past t [] ys b = refl
lowest_past t (x ∷ xs) ys b = rw b.0 (lowest_past t xs ys b.2)

unlike : (t u : ℕ) → u < t → nat_eq t u ≡ false
unlike t u l = grind (arith, nat_tests)

itself : (t : ℕ) → nat_eq t t ≡ true
itself t = grind (arith, nat_tests)

delivered_past : (store : List Cell) (xs ys : List Waiter) (y : Waiter) → AreBefore y.ticket xs → delivered y.ticket store (xs ++ y ∷ ys) ≡ xs ++ with_delivery store y ∷ ys
delivered_past store [] ys y b = rw (itself y.ticket) refl
delivered_past store (x ∷ xs) ys y b = rw (unlike y.ticket x.ticket b.1) (ap (λ (ws : List Waiter). x ∷ ws) (delivered_past store xs ys y b.2))

meets-nothing : (is : List ℕ) → intersects [] is ≡ false
meets-nothing [] = refl
meets-nothing (i ∷ is) = meets-nothing is

pub not_due : (store : List Cell) (w : Waiter) → is_due (with_delivery store w) ≡ false
not_due store w = rw (meets-nothing (looked_on store w.block)) refl

abbrev with_waiters : Slow → List Waiter → Slow
with_waiters s ws = record s { waiters = ws }

-- the rest of a round, from the blocks that are still to be looked at
abbrev rest_of : ℕ → Slow → List Waiter → List Waiter → List What
rest_of room s xs ys = take room (round_installs s.store ys) ++ from_finish (room - length (round_installs s.store ys)) (with_waiters s (xs ++ map (delivered_if_due s.store) ys))

ended_by : (room : ℕ) (s : Slow) (t : ℕ) (xs : List Waiter) → AreBefore t xs → settling room (with_waiters s xs) ≡ from_finish room (with_waiters s xs)
ended_by zero s t xs b = refl
ended_by (suc room) s t xs b =
    let e : lowest is_due xs ≡ None = sym (ap (lowest is_due) (append-nil xs)) ∙ lowest_past t xs [] b in
    rw e refl

nothing_less : (n : ℕ) → n - 0 ≡ n
nothing_less n = omega arith

take_none : {A : Type 0} (n : ℕ) → take {A = A} n [] ≡ []
take_none zero = refl
take_none (suc n) = refl

next_due : (s : Slow) (xs ys : List Waiter) (y : Waiter) (w : Verdict) → AreBefore y.ticket xs → is_due y ≡ true → verdict_on s.store y.block ≡ Some w → next_what (with_waiters s (xs ++ y ∷ ys)) ≡ Some (Installed y.ticket w)
next_due s xs ys y w b e q = rw (lowest_past y.ticket xs (y ∷ ys) b, e, q) refl

round_step : (d : Bool) (room : ℕ) (s : Slow) (xs ys : List Waiter) (y : Waiter) (n : ℕ) → is_due y ≡ d → AreRising n y.ticket ys → y.ticket < n → AreBefore y.ticket xs → (d ≡ true → is_some (verdict_on s.store y.block) ≡ true)
    → ((room : ℕ) (z : Waiter) → z.ticket ≡ y.ticket → is_due z ≡ false → settling room (with_waiters s ((xs ++ z ∷ []) ++ ys)) ≡ rest_of room s (xs ++ z ∷ []) ys)
    → settling room (with_waiters s (xs ++ y ∷ ys)) ≡ take room (cond d (if_some (installing y.ticket (verdict_on s.store y.block)) ++ round_installs s.store ys) (round_installs s.store ys))
    ++ from_finish (room - length (cond d (if_some (installing y.ticket (verdict_on s.store y.block)) ++ round_installs s.store ys) (round_installs s.store ys))) (with_waiters s (xs ++ cond d (with_delivery s.store y) y ∷ map (delivered_if_due s.store) ys))
round_step false room s xs ys y n e r l b v more =
    let m = more room y refl e in
    subst (λ (ws : List Waiter). settling room (with_waiters s ws) ≡ take room (round_installs s.store ys) ++ from_finish (room - length (round_installs s.store ys)) (with_waiters s (xs ++ y ∷ map (delivered_if_due s.store) ys))) (append_assoc xs (y ∷ []) ys)
    (m ∙ ap (λ (ws : List Waiter). take room (round_installs s.store ys) ++ from_finish (room - length (round_installs s.store ys)) (with_waiters s ws)) (append_assoc xs (y ∷ []) (map (delivered_if_due s.store) ys)))
round_step true room s xs ys y n e r l b v more =
    let p = some_verdict (verdict_on s.store y.block) (v refl) in
    let next : next_what (with_waiters s (xs ++ y ∷ ys)) ≡ Some (Installed y.ticket p.0) = next_due s xs ys y p.0 b e p.1 in
    subst (λ (o : Option Verdict). settling room (with_waiters s (xs ++ y ∷ ys)) ≡ take room (if_some (installing y.ticket o) ++ round_installs s.store ys)
    ++ from_finish (room - length (if_some (installing y.ticket o) ++ round_installs s.store ys)) (with_waiters s (xs ++ with_delivery s.store y ∷ map (delivered_if_due s.store) ys)))
    (sym p.1) (by room p.0 next) where
      z : Waiter
      z = with_delivery s.store y

      by : (k : ℕ) (w : Verdict) → next_what (with_waiters s (xs ++ y ∷ ys)) ≡ Some (Installed y.ticket w)
          → settling k (with_waiters s (xs ++ y ∷ ys)) ≡ take k (Installed y.ticket w ∷ round_installs s.store ys)
          ++ from_finish (k - length (Installed y.ticket w ∷ round_installs s.store ys)) (with_waiters s (xs ++ with_delivery s.store y ∷ map (delivered_if_due s.store) ys))
      by zero w h =
          let e : 0 - suc (length (round_installs s.store ys)) ≡ 0 = omega arith in
          rw e refl
      by (suc k) w h =
          let e : suc k - suc (length (round_installs s.store ys)) ≡ k - length (round_installs s.store ys) = omega arith in
          rw (h, e)
          (ap (λ (xs : List What). Installed y.ticket w ∷ xs)
          (ap (λ (ws : List Waiter). settling k (with_waiters s ws)) (delivered_past s.store xs ys y b ∙ sym (append_assoc xs (with_delivery s.store y ∷ []) ys))
          ∙ more k (with_delivery s.store y) refl (not_due s.store y)
          ∙ ap (λ (ws : List Waiter). take k (round_installs s.store ys) ++ from_finish (k - length (round_installs s.store ys)) (with_waiters s ws)) (append_assoc xs (with_delivery s.store y ∷ []) (map (delivered_if_due s.store) ys))))

-- the blocks before are past, those after are still to be looked at
round_from : (room : ℕ) (s : Slow) (n t : ℕ) (xs ys : List Waiter) → AreBefore (suc t) xs → AreRising n t ys → HaveVerdicts s.store ys → settling room (with_waiters s (xs ++ ys)) ≡ rest_of room s xs ys
round_from room s n t xs [] b r v =
    ap (λ (ws : List Waiter). settling room (with_waiters s ws)) (append-nil xs) ∙ ended_by room s (suc t) xs b
    ∙ ap (λ (ws : List Waiter). from_finish room (with_waiters s ws)) (sym (append-nil xs))
    ∙ ap (λ (is : List What). is ++ from_finish room (with_waiters s (xs ++ []))) (sym (take_none room))
    ∙ ap (λ (k : ℕ). take room [] ++ from_finish k (with_waiters s (xs ++ []))) (sym (nothing_less room))
round_from room s n t xs (y ∷ ys) b r v =
    round_step (is_due y) room s xs ys y n refl r.2 r.1 (weaker (suc t) y.ticket xs (let k : t < y.ticket = r.0 in omega arith) b) v.0
    (λ k z e d. round_from k s n y.ticket (xs ++ z ∷ []) ys (before-push (suc t) (suc y.ticket) xs z (let q : t < y.ticket = r.0 in omega arith) b d (omega arith)) r.2 v.1)

pub settling_is_rounds : SettlingIsRounds
settling_is_rounds room s r v = round_from room s s.next 0 [] s.waiters tt r v
