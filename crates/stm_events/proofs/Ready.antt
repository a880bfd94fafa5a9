-- While no block is new or stale, those that could finish now are those that don't block.
use Rattle.std.proofs.Common.{◌≡◌, ℕ, ◌<◌, Bool, true, false, not, ◌&&◌, cond, List, [], ◌∷◌, Option, Some, None, refl, ap, arith}
use Rattle.std.specs.Prelude.{nat_lt, option_map}
use Rattle.std.proofs.lemmas.Bool.Decides.{nat_tests}
use Rattle.stm_store.specs.declared.cell.Cell.{Cell}
use Rattle.stm_events.specs.SlowDesk.{Waiter, Slow, is_current}
use Rattle.stm_events.specs.SlowSettle.{lowest, is_due, can_end}
use Rattle.stm_events.specs.Ready.{is_ready, next_ready}
use Rattle.stm_events.specs.Laws.{AreRising}

first_none : (b : Bool) (w : Waiter) (o : Option Waiter) → cond b (Some w) o ≡ None → (b ≡ false) × (o ≡ None)
first_none true w o e = cc
first_none false w o e = (refl, e)

same_test : (a b c : Bool) → a ≡ true → not b ≡ false → (a && (b && c)) ≡ c
same_test true true c p q = refl
same_test true false c p q = cc
same_test false b c p q = cc

above_zero : (k t : ℕ) → k < t → nat_lt 0 t ≡ true
above_zero k t l = grind (arith, nat_tests)

ready_ends : (store : List Cell) (n k : ℕ) (ws : List Waiter) → AreRising n k ws → lowest is_due ws ≡ None → lowest (λ w. nat_lt 0 w.ticket && is_ready store w) ws ≡ lowest (can_end store) ws
ready_ends store n k [] r e = refl
ready_ends store n k (w ∷ ws) r e =
    let a = first_none (is_due w) w (lowest is_due ws) e in
    let b : (nat_lt 0 w.ticket && is_ready store w) ≡ can_end store w = same_test (nat_lt 0 w.ticket) (is_current w) (can_end store w) (above_zero k w.ticket r.0) a.0 in
    rw (b, ready_ends store n w.ticket ws r.2 a.1) refl

pub ready_finishes_next : (s : Slow) → AreRising s.next 0 s.waiters → lowest is_due s.waiters ≡ None → next_ready 0 s ≡ option_map (λ w. w.ticket) (lowest (can_end s.store) s.waiters)
ready_finishes_next s r e = ap (option_map (λ (w : Waiter). w.ticket)) (ready_ends s.store s.next 0 s.waiters r e)
