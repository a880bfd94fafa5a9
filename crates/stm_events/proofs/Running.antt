-- Runs: what is next is done, and so on, as long as there is room.
use Rattle.std.proofs.Common.{◌≡◌, ℕ, zero, suc, ◌<◌, ◌≤◌, Bool, true, false, List, [], ◌∷◌, Option, Some, None, refl, sym, ap, ◌∙◌, arith}
use Rattle.std.specs.Prelude.{◌≢◌, is_some}
use Rattle.stm_events.specs.declared.event.What.{What}
use Rattle.stm_events.specs.SlowDesk.{Slow, after}
use Rattle.stm_events.specs.SlowSettle.{Order, has_cells, running, NoRoom, NoCells, run_stop}

-- ---- one step
pub running_more : (next : Order) (room left : ℕ) (s : Slow) (x : What) → room ≡ suc left → next s ≡ Some x → has_cells s x ≡ true → running next room s ≡ x ∷ running next left (after s x)
running_more next room left s x e n h = rw (e, n, h) refl

pub running_ends : (next : Order) (room : ℕ) (s : Slow) → next s ≡ None → running next room s ≡ []
running_ends next zero s n = refl
running_ends next (suc room) s n = rw n refl

pub running_full : (next : Order) (room : ℕ) (s : Slow) → room ≡ 0 → running next room s ≡ []
running_full next room s e = rw e refl

pub running_crowded : (next : Order) (room : ℕ) (s : Slow) (x : What) → next s ≡ Some x → has_cells s x ≡ false → running next room s ≡ []
running_crowded next zero s x n h = refl
running_crowded next (suc room) s x n h = rw (n, h) refl

pub stopping_more : (next : Order) (room left : ℕ) (s : Slow) (x : What) → room ≡ suc left → next s ≡ Some x → has_cells s x ≡ true → run_stop next room s ≡ run_stop next left (after s x)
stopping_more next room left s x e n h = rw (e, n, h) refl

pub stopping_ends : (next : Order) (room : ℕ) (s : Slow) → next s ≡ None → run_stop next room s ≡ None
stopping_ends next zero s n = rw n refl
stopping_ends next (suc room) s n = rw n refl

pub stopping_full : (next : Order) (room : ℕ) (s : Slow) → room ≡ 0 → is_some (next s) ≡ true → run_stop next room s ≡ Some NoRoom
stopping_full next room s e n = rw (e, n) refl

pub stopping_crowded : (next : Order) (room : ℕ) (s : Slow) (x : What) → 0 < room → next s ≡ Some x → has_cells s x ≡ false → run_stop next room s ≡ Some NoCells
stopping_crowded next zero s x l n h = absurd (omega arith)
stopping_crowded next (suc room) s x l n h = rw (n, h) refl

-- ---- a run that has room is the same with more
pub record SameRun (next : Order) (room big : ℕ) (s : Slow) : Type 0 where
  pub whats : running next big s ≡ running next room s
  pub stop : run_stop next big s ≡ run_stop next room s

same_ended : (next : Order) (room big : ℕ) (s : Slow) → next s ≡ None → SameRun next room big s
same_ended next room big s e = record {
  whats = running_ends next big s e ∙ sym (running_ends next room s e);
  stop = stopping_ends next big s e ∙ sym (stopping_ends next room s e);
}

same_none : (next : Order) (big : ℕ) (s : Slow) (o : Option What) → next s ≡ o → run_stop next zero s ≢ Some NoRoom → SameRun next zero big s
same_none next big s None e h = same_ended next zero big s e
same_none next big s (Some x) e h = absurd (h (stopping_full next zero s refl (ap is_some e)))

same_cells : (next : Order) (room big : ℕ) (s : Slow) (x : What) (b : Bool) → next s ≡ Some x → has_cells s x ≡ b → (b ≡ true → SameRun next room big (after s x)) → SameRun next (suc room) (suc big) s
same_cells next room big s x true e h more =
    let m = more refl in
    record {
      whats = running_more next (suc big) big s x refl e h ∙ ap (λ (xs : List What). x ∷ xs) m.whats ∙ sym (running_more next (suc room) room s x refl e h);
      stop = stopping_more next (suc big) big s x refl e h ∙ m.stop ∙ sym (stopping_more next (suc room) room s x refl e h);
    }
same_cells next room big s x false e h more = record {
  whats = running_crowded next (suc big) s x e h ∙ sym (running_crowded next (suc room) s x e h);
  stop = stopping_crowded next (suc big) s x (omega arith) e h ∙ sym (stopping_crowded next (suc room) s x (omega arith) e h);
}

same_step : (next : Order) (room big : ℕ) (s : Slow) (o : Option What) → next s ≡ o → run_stop next (suc room) s ≢ Some NoRoom → ((z : Slow) → run_stop next room z ≢ Some NoRoom → SameRun next room big z) → SameRun next (suc room) (suc big) s
same_step next room big s None e h more = same_ended next (suc room) (suc big) s e
same_step next room big s (Some x) e h more =
    same_cells next room big s x (has_cells s x) e refl (λ q. more (after s x) (λ r. h (stopping_more next (suc room) room s x refl e q ∙ r)))

pub same_run : (next : Order) (room big : ℕ) (s : Slow) → room ≤ big → run_stop next room s ≢ Some NoRoom → SameRun next room big s
same_run next zero big s l h = same_none next big s (next s) refl h
same_run next (suc room) zero s l h = absurd (omega arith)
same_run next (suc room) (suc big) s l h = same_step next room big s (next s) refl h (λ z k. same_run next room big z (omega arith) k)
