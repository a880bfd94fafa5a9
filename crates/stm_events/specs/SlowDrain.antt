-- Draining on the slow desk: the next thing is done with the lowest waiting block that is new or stale, or that doesn't block on the
-- present store: if it is new or stale it is run and installed, else it is finished. Current blocks that block are passed over. So no
-- block is run before those below it have come to rest, and what a finish below would make stale isn't run before it.
use Rattle.std.specs.Prelude.{◌≡◌, ◌≢◌, ◌≤◌, ℕ, ◌||◌, Bool, if◌then◌else◌, List, [], ◌∷◌, ◌++◌, Option, Some, None}
use Rattle.stm_terms.specs.declared.verdicts.Verdict.{Verdict}
use Rattle.stm_store.specs.declared.cell.Cell.{Cell}
use Rattle.stm_events.specs.declared.event.What.{What}
use Rattle.stm_events.specs.declared.event.What.TheVariants.{Submitted, Installed, Finished, Cancelled, Declared as DeclaredLate, Labelled}
use Rattle.stm_events.specs.SlowDesk.{Slow, Waiter, verdict_on, after}
use Rattle.stm_events.specs.SlowSettle.{lowest, is_due, can_end, installing, ending, Order, running, Stop, NoRoom, run_stop, settling, settle_stop, installs, AllBlock}
use Rattle.stm_events.specs.States.{IsPossible, IsTypedState, observed}

-- there is something to do with the block: it is new or stale, or doesn't block on the store
abbrev pub is_next : List Cell → Waiter → Bool
is_next store w = is_due w || can_end store w

-- what is done with this block, if there is one
abbrev pub drain_of : Slow → Option Waiter → Option What
drain_of s None = None
drain_of s (Some w) =
    if is_due w then installing w.ticket (verdict_on s.store w.block) else ending s w.ticket (verdict_on s.store w.block)

-- what draining does next
abbrev pub next_drain : Order
next_drain s = drain_of s (lowest (is_next s.store) s.waiters)

-- what draining does, if the history has room for this many events
abbrev pub draining : ℕ → Slow → List What
draining = running next_drain

-- whether it stops before nothing is left to do, and why
abbrev pub drain_stop : ℕ → Slow → Option Stop
drain_stop = run_stop next_drain

-- ---- draining and settling come to the same
-- a finish without the tickets that it makes stale: settling has run blocks that are still new to draining
pub record Served : Type 0 where
  pub ticket : ℕ
  pub verdict : Verdict
  pub first_new : ℕ

-- the finish, if the event is one
abbrev pub served_by : What → List Served
served_by (Submitted t block) = []
served_by (Installed t v) = []
served_by (Finished t v n stale) = record { ticket = t; verdict = v; first_new = n } ∷ []
served_by (Cancelled t) = []
served_by (DeclaredLate name kind value) = []
served_by (Labelled t label) = []

-- the finishes, in their order
abbrev pub served : List What → List Served
served [] = []
served (x ∷ xs) = served_by x ++ served xs

-- the state after these events
abbrev pub after_all : Slow → List What → Slow
after_all s [] = s
after_all s (x ∷ xs) = after_all (after s x) xs

-- two runs on a state finish the same blocks in the same order with the same verdicts, and the store ends the same; the first
-- evaluates no more than the second
pub record ServesAs (s : Slow) (first second : List What) : Type 0 where
  pub finishes : served first ≡ served second
  pub store : (after_all s first).store ≡ (after_all s second).store
  pub evaluations : installs first ≤ installs second

-- they come to rest alike: the same can be observed after them, and each block that waits is current and blocks
pub record RestsAs (s : Slow) (first second : List What) : Type 0 where
  pub observed : observed (after_all s first) ≡ observed (after_all s second)
  pub all_block : AllBlock (after_all s first)

-- if the history has room for both, draining does what settling does, with no more evaluations, and stops alike; and if it has room for
-- settling, it has room for draining
pub record DrainsAsSettling : Type 0 where
  pub serves : (s : Slow) (room room' : ℕ) → IsPossible s → IsTypedState s → drain_stop room s ≢ Some NoRoom
      → settle_stop room' s ≢ Some NoRoom → ServesAs s (draining room s) (settling room' s)
  pub stops : (s : Slow) (room room' : ℕ) → IsPossible s → IsTypedState s → drain_stop room s ≢ Some NoRoom
      → settle_stop room' s ≢ Some NoRoom → drain_stop room s ≡ settle_stop room' s
  pub rests : (s : Slow) (room room' : ℕ) → IsPossible s → IsTypedState s → drain_stop room s ≡ None
      → settle_stop room' s ≡ None → RestsAs s (draining room s) (settling room' s)
  pub sooner : (s : Slow) (room : ℕ) → IsPossible s → IsTypedState s → settle_stop room s ≢ Some NoRoom
      → drain_stop room s ≢ Some NoRoom
