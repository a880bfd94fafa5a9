-- The promise of the scheduler over a history of a table, from that of one that begins from any possible state.
use Rattle.std.proofs.Common.{◌≡◌, ℕ, Bool, true, false, cond, List, Option, Some, None, refl, ap}
use Rattle.stm_store.specs.Tables.{Declared}
use Rattle.stm_events.specs.declared.event.Event.{Event}
use Rattle.stm_events.specs.declared.staleness.StalenessRule.{StalenessRule}
use Rattle.stm_events.specs.Headline as table
use Rattle.stm_events.specs.HeadlineFrom.{IsKnownFrom, Fresh, Evaluated, Before}
use Rattle.stm_events.specs.Laws.{WeakIsPresent}
use Rattle.stm_events.specs.SlowDesk.{Since, Waiter, Slow, Standing, Stale, Current, verdict_on, is_stale_since, find_waiter, initial_state, state_by, standing_since, standing, weak_since, weak_standing}
use Rattle.stm_events.specs.States.{IsPossible}
use Rattle.stm_events.proofs.HeadlineFrom.{headline_from}
use Rattle.stm_events.proofs.Possible.{possible_initial, possible_from, current_verdict}

-- nothing waits where a history of a table begins
known_by : (rule : StalenessRule) (declared : List Declared) (history : List Event) (t : ℕ) (w : Waiter) → IsKnownFrom (initial_state rule declared) history t w → table.IsKnownBy rule declared history t w
known_by rule declared history t w (Fresh n k) = table.Fresh n k
known_by rule declared history t w (Evaluated n d m) = table.Evaluated n d (record { evaluated = m.evaluated; marked = m.marked; present = m.present })
known_by rule declared history t w (Before n k m) = let e = m.found in absurd cc

pub headline : (rule : StalenessRule) → table.HeadlineBy rule
headline rule declared history l =
    let h = headline_from (initial_state rule declared) history (possible_initial rule declared) l.each in
    record { blocks = λ t w f. known_by rule declared history t w (h.blocks t w f); store = h.store }

-- ---- the weak status is the status
stands_by : (a : Bool) (then now present : Standing) → (a ≡ false → now ≡ present) → cond a then now ≡ cond a then present
stands_by true then now present e = refl
stands_by false then now present e = e refl

weak_by : (s : Slow) (t : ℕ) (w : Waiter) (o : Option Since) → IsPossible s → find_waiter t s.waiters ≡ Some w → w.since ≡ o → standing_since s.store w.block o ≡ weak_since w.block o
weak_by s t w None p f e = refl
weak_by s t w (Some d) p f e =
    stands_by (is_stale_since w.block d) (Stale (verdict_on d.store_then w.block)) (Current (verdict_on s.store w.block)) (Current (verdict_on d.store_then w.block))
    (λ n. ap Current (current_verdict s t w d p f e n))

pub weak_possible : (s : Slow) (t : ℕ) (w : Waiter) → IsPossible s → find_waiter t s.waiters ≡ Some w → standing s.store w ≡ weak_standing w
weak_possible s t w p f = weak_by s t w w.since p f refl

pub weak_is_present : WeakIsPresent
weak_is_present rule declared history t w l f =
    weak_possible (state_by rule declared history) t w (possible_from (initial_state rule declared) history (possible_initial rule declared) l.each) f
