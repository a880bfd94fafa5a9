-- Settling said in rounds: every block that is new or stale is run on the present store and installed, in the order of the
-- tickets; then the lowest block that doesn't block is finished, and so on.
use Rattle.std.specs.Prelude.{◌≡◌, ℕ, zero, suc, ◌-◌, true, if◌then◌else◌, List, [], ◌∷◌, ◌++◌, map, take, length, Option, Some, None, is_some}
use Rattle.stm_store.specs.declared.cell.Cell.{Cell}
use Rattle.stm_events.specs.declared.event.What.{What}
use Rattle.stm_events.specs.SlowDesk.{Slow, Waiter, verdict_on, with_delivery}
use Rattle.stm_events.specs.SlowSettle.{lowest, is_due, can_end, installing, next_of, settle_on, settling}
use Rattle.stm_events.specs.Laws.{AreRising}

-- what happens, if anything does
abbrev pub if_some : Option What → List What
if_some None = []
if_some (Some x) = x ∷ []

-- the installations of a round, in the order of the tickets
abbrev pub round_installs : List Cell → List Waiter → List What
round_installs store [] = []
round_installs store (w ∷ ws) =
    if is_due w then if_some (installing w.ticket (verdict_on store w.block)) ++ round_installs store ws
    else round_installs store ws

-- a waiting block after the installations of a round
abbrev pub delivered_if_due : List Cell → Waiter → Waiter
delivered_if_due store w = if is_due w then with_delivery store w else w

-- the state after them
abbrev pub after_installs : Slow → Slow
after_installs s = record s { waiters = map (delivered_if_due s.store) s.waiters }

-- the finish that ends a round, if the history has room, and what is done after it
abbrev pub from_finish : ℕ → Slow → List What
from_finish zero s = []
from_finish (suc room) s = settle_on (settling room) s (next_of s None (lowest (can_end s.store) s.waiters))

-- a round, if the history has room for this many events, and what is done after it
abbrev pub a_round : ℕ → Slow → List What
a_round room s =
    take room (round_installs s.store s.waiters)
    ++ from_finish (room - length (round_installs s.store s.waiters)) (after_installs s)

-- each block that is new or stale has a verdict, as every well typed one has on a store with its variables
abbrev pub HaveVerdicts : List Cell → List Waiter → Type 0
HaveVerdicts store [] = Unit {0}
HaveVerdicts store (w ∷ ws) = (is_due w ≡ true → is_some (verdict_on store w.block) ≡ true) × HaveVerdicts store ws

-- settling begins with a round, so it is rounds
abbrev pub SettlingIsRounds : Type 0
SettlingIsRounds =
    (room : ℕ) (s : Slow) → AreRising s.next 0 s.waiters → HaveVerdicts s.store s.waiters → settling room s ≡ a_round room s
