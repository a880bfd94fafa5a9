-- The promise of the scheduler over a history that begins from any possible state, as one that follows a checkpoint does.
use Rattle.std.specs.Prelude.{◌≡◌, ℕ, true, false, not, ◌||◌, List, Some}
use Rattle.stm_events.specs.declared.event.Event.{Event}
use Rattle.stm_events.specs.declared.event.What.TheVariants.{Installed}
use Rattle.stm_events.specs.Headline.{is_installed, waking_from, LastDelivery}
use Rattle.stm_events.specs.SlowDesk.{Since, Slow, Waiter, verdict_on, looked_on, intersects, is_new, is_current, find_waiter, after, state_from, LegalFrom, serial, serial_steps_from}
use Rattle.stm_events.specs.States.{IsPossible}

-- the state that a delivery left
abbrev pub state_then_from : Slow → (history : List Event) (t : ℕ) → LastDelivery history t → Slow
state_then_from s history t d = after (state_from s d.before) (Installed t d.verdict)

-- a delivery in the history is marked rightly, as in `Headline.IsMarkedRightlyBy`
pub record IsMarkedRightlyFrom (s : Slow) (history : List Event) (t : ℕ) (w : Waiter) (d : LastDelivery history t) : Type 0 where
  pub evaluated : verdict_on (state_from s d.before).store w.block ≡ Some d.verdict
  pub marked : not (is_current w)
      ≡ intersects (waking_from (state_then_from s history t d) d.later) (looked_on (state_from s d.before).store w.block)
  pub present : is_current w ≡ true → verdict_on (state_from s history).store w.block ≡ Some d.verdict

-- A delivery before the history, which the state has as `since`: the block is marked stale exactly if it was stale in that state,
-- or a block that finished in the history changed a variable that it read; and if it isn't marked so, running it from scratch on
-- the present store gives the verdict of that delivery.
pub record IsMarkedRightlyBefore (s : Slow) (history : List Event) (t : ℕ) (w : Waiter) : Type 0 where
  pub first : Waiter
  pub since : Since
  pub found : find_waiter t s.waiters ≡ Some first
  pub block : w.block ≡ first.block
  pub delivered : first.since ≡ Some since
  pub marked : not (is_current w)
      ≡ (not (is_current first) || intersects (waking_from s history) (looked_on since.store_then w.block))
  pub present : is_current w ≡ true → verdict_on (state_from s history).store w.block ≡ verdict_on since.store_then w.block

-- a waiting block is new, and nothing was delivered to it, or its last delivery is marked rightly
pub data IsKnownFrom (s : Slow) (history : List Event) (t : ℕ) (w : Waiter) : Type 0 where
  Fresh : is_new w ≡ true → is_installed t history ≡ false → IsKnownFrom s history t w
  Evaluated : is_new w ≡ false → (d : LastDelivery history t) → IsMarkedRightlyFrom s history t w d → IsKnownFrom s history t w
  Before : is_new w ≡ false → is_installed t history ≡ false → IsMarkedRightlyBefore s history t w → IsKnownFrom s history t w

-- of every waiting block that, and the store is that of running the finished blocks alone and making the declared variables, one after
-- another
pub record HeadlineHoldsFrom (s : Slow) (history : List Event) : Type 0 where
  pub blocks : (t : ℕ) (w : Waiter) → find_waiter t (state_from s history).waiters ≡ Some w → IsKnownFrom s history t w
  pub store : (state_from s history).store ≡ serial s.store (serial_steps_from s history)

-- so it is after every history, of any length, each event of which is allowed in its turn from a possible state on
abbrev pub HeadlineFrom : Type 0
HeadlineFrom = (s : Slow) (history : List Event) → IsPossible s → LegalFrom s history → HeadlineHoldsFrom s history
