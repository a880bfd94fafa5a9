-- The promise of the scheduler over a history that begins from any possible state.
use Rattle.std.proofs.Common.{◌≡◌, ℕ, Bool, true, false, not, ◌||◌, List, ◌++◌, Option, Some, None, refl, sym, ap, subst, ◌∙◌}
use Rattle.std.proofs.lemmas.Bool.{not-true}
use Rattle.stm_store.specs.declared.cell.Cell.{Cell}
use Rattle.stm_events.specs.declared.event.Event.{Event}
use Rattle.stm_events.specs.Headline.{waking_from}
use Rattle.stm_events.specs.HeadlineFrom.{state_then_from, IsMarkedRightlyFrom, IsMarkedRightlyBefore, IsKnownFrom, Fresh, Evaluated, Before, HeadlineFrom}
use Rattle.stm_events.specs.SlowDesk.{Since, Waiter, Slow, verdict_on, looked_on, intersects, is_stale_since, is_new_since, current_since, is_current, find_waiter, state_from, LegalFrom}
use Rattle.stm_events.specs.States.{IsPossible}
use Rattle.stm_events.proofs.AlikeWaitersStay.{meets-append}
use Rattle.stm_events.proofs.Possible.{possible_from, current_verdict}
use Rattle.stm_events.proofs.Serial.{serial_from}
use Rattle.stm_events.proofs.SinceFrom as since

twice : (a : Bool) → not (not a) ≡ a
twice true = refl
twice false = refl

-- a block is stale exactly if it isn't current
stale_is : (w : Waiter) (s : Since) → w.since ≡ Some s → not (is_current w) ≡ is_stale_since w.block s
stale_is w s e = ap not (ap (current_since w.block) e) ∙ twice (is_stale_since w.block s)

module _ (start : Slow) (history : List Event) (p : IsPossible start) (l : LegalFrom start history) where
  present_by : (t : ℕ) (w : Waiter) (s : Since) → find_waiter t (state_from start history).waiters ≡ Some w → w.since ≡ Some s → is_current w ≡ true → verdict_on (state_from start history).store w.block ≡ verdict_on s.store_then w.block
  present_by t w s f e c =
      let n : is_stale_since w.block s ≡ false = not-true (is_stale_since w.block s) (sym (ap (current_since w.block) e) ∙ c) in
      current_verdict (state_from start history) t w s (possible_from start history p l) f e n

  marked_here : (t : ℕ) (w : Waiter) (s : Since) → find_waiter t (state_from start history).waiters ≡ Some w → w.since ≡ Some s → (k : since.IsSinceFrom start history t w.block s) → IsMarkedRightlyFrom start history t w k.delivery
  marked_here t w s f e k = record {
    evaluated = subst (λ (x : List Cell). verdict_on x w.block ≡ Some k.delivery.verdict) k.store k.verdict;
    marked =
        stale_is w s e
        ∙ ap (λ (x : List ℕ). intersects x (looked_on s.store_then w.block)) k.woken
        ∙ ap (λ (x : List Cell). intersects (waking_from (state_then_from start history t k.delivery) k.delivery.later) (looked_on x w.block)) k.store;
    present = λ c. present_by t w s f e c ∙ k.verdict;
  }

  marked_before : (t : ℕ) (w : Waiter) (s : Since) → find_waiter t (state_from start history).waiters ≡ Some w → w.since ≡ Some s → since.IsSinceBefore start history t w.block s → IsMarkedRightlyBefore start history t w
  marked_before t w s f e k = record {
    first = k.first;
    since = k.since;
    found = k.found;
    block = k.block;
    delivered = k.delivered;
    marked =
        let looks = looked_on k.since.store_then w.block in
        let first_stale : intersects k.since.woken looks ≡ not (is_current k.first) =
        ap (λ x. intersects k.since.woken (looked_on k.since.store_then x)) k.block ∙ sym (stale_is k.first k.since k.delivered) in
        stale_is w s e
        ∙ ap (λ (x : List ℕ). intersects x (looked_on s.store_then w.block)) k.woken
        ∙ ap (λ (x : List Cell). intersects (k.since.woken ++ waking_from start history) (looked_on x w.block)) k.store
        ∙ meets-append k.since.woken (waking_from start history) looks
        ∙ ap (λ (b : Bool). b || intersects (waking_from start history) looks) first_stale;
    present = λ c. present_by t w s f e c ∙ ap (λ (x : List Cell). verdict_on x w.block) k.store;
  }

  known_by : (t : ℕ) (w : Waiter) (o : Option Since) → find_waiter t (state_from start history).waiters ≡ Some w → w.since ≡ o → since.IsTracked start history t w.block o → IsKnownFrom start history t w
  known_by t w None f e k = Fresh (ap is_new_since e) k
  known_by t w (Some s) f e (since.Here k) = Evaluated (ap is_new_since e) k.delivery (marked_here t w s f e k)
  known_by t w (Some s) f e (since.Before k) = Before (ap is_new_since e) k.none (marked_before t w s f e k)

pub headline_from : HeadlineFrom
headline_from start history p l = record {
  blocks = λ t w f. known_by start history p l t w w.since f refl ((since.tracked_state start history p l).each t w f);
  store = serial_from start history l;
}
