-- What a client knows of a history.
use Rattle.std.specs.Prelude.{ℕ, zero, suc, ◌+◌, Bool, true, ◌&&◌, ◌==◌, nat_lt, List, [], ◌∷◌, ◌++◌, length, if◌then◌else◌}
use Rattle.stm_events.specs.declared.event.Event.{Event}
use Rattle.stm_events.specs.declared.event.What.{What}
use Rattle.stm_machine.specs.Machine.{event}

-- what a pass is to its holder: the client, its own accepted events, and how many events it has seen
pub record Known : Type 0 where
  pub client : ℕ
  pub own : List Event
  pub seen : ℕ

-- the events of a client, in order
abbrev pub own_of : ℕ → List Event → List Event
own_of client [] = []
own_of client (e ∷ es) = if e.client == client then e ∷ own_of client es else own_of client es

-- whether all events are the client's
abbrev pub are_of : ℕ → List Event → Bool
are_of client [] = true
are_of client (e ∷ es) = (e.client == client) && are_of client es

-- whether all events are of clients below n
abbrev pub are_below : ℕ → List Event → Bool
are_below n [] = true
are_below n (e ∷ es) = nat_lt e.client n && are_below n es

-- the numbers of the passes' events, added up
abbrev pub events_in_passes : List Known → ℕ
events_in_passes [] = 0
events_in_passes (p ∷ ps) = length p.own + events_in_passes ps

-- a client who has done and seen nothing
abbrev pub newcomer : ℕ → Known
newcomer client = record { client = client; own = []; seen = 0 }

-- this many clients from one on, in order, who have done and seen nothing
abbrev pub newcomers : ℕ → ℕ → List Known
newcomers client zero = []
newcomers client (suc n) = newcomer client ∷ newcomers (client + 1) n

-- the same client with one event more
abbrev pub with_own : Known → Event → Known
with_own k e = record k { own = k.own ++ e ∷ [] }

-- the same client, who did this
abbrev pub having_done : Known → What → Known
having_done k what = with_own k (event k.client what)

-- the same client, who has seen this many events
abbrev pub having_seen : Known → ℕ → Known
having_seen k n = record k { seen = n }
