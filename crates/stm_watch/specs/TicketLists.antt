-- The tickets that watch one variable, as they are kept.
use Rattle.std.specs.Prelude.{ℕ, List, [], ◌∷◌}
use Rattle.stm_watch.specs.declared.watchers.TicketList.{TicketList}
use Rattle.stm_watch.specs.declared.watchers.TicketList.TheVariants.{Nobody, One, Many}

-- the tickets in ascending order
abbrev pub listed_tickets : TicketList → List ℕ
listed_tickets Nobody = []
listed_tickets (One t) = t ∷ []
listed_tickets (Many b) = b.value.items
