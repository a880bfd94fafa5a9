-- How many blocks draining runs: those that are new or stale, and those that its finishes make stale.
use Rattle.std.specs.Prelude.{◌≡◌, ℕ, ◌+◌, List, [], ◌∷◌, filter, length, None}
use Rattle.stm_events.specs.declared.event.What.{What}
use Rattle.stm_events.specs.declared.event.What.TheVariants.{Submitted, Installed, Finished, Cancelled, Declared as DeclaredLate, Labelled}
use Rattle.stm_events.specs.SlowDesk.{Slow}
use Rattle.stm_events.specs.SlowSettle.{is_due, installs}
use Rattle.stm_events.specs.SlowDrain.{draining, drain_stop}
use Rattle.stm_events.specs.States.{IsPossible, IsTypedState}

-- how many waiting blocks are new or stale
abbrev pub due_count : Slow → ℕ
due_count s = length (filter is_due s.waiters)

-- how many blocks an event makes stale
abbrev pub stales_of : What → ℕ
stales_of (Submitted t block) = 0
stales_of (Installed t v) = 0
stales_of (Finished t v n stale) = length stale
stales_of (Cancelled t) = 0
stales_of (DeclaredLate name kind value) = 0
stales_of (Labelled t label) = 0

-- how many blocks these events make stale, each as often as it becomes so
abbrev pub stales : List What → ℕ
stales [] = 0
stales (x ∷ xs) = stales_of x + stales xs

-- draining that comes to rest runs each of them once: so new blocks that no finish makes stale are run once each
abbrev pub DrainingRunsWhatIsDue : Type 0
DrainingRunsWhatIsDue =
    (s : Slow) (room : ℕ) → IsPossible s → IsTypedState s → drain_stop room s ≡ None
    → installs (draining room s) ≡ due_count s + stales (draining room s)
