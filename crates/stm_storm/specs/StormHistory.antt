-- The history that a storm leaves: it is legal, and has what the storm's counts say.
use Rattle.std.specs.Prelude.{◌≡◌, ℕ, List, length}
use Rattle.stm_store.specs.Tables.{Declared}
use Rattle.stm_events.specs.declared.event.Event.{Event}
use Rattle.stm_events.specs.SlowDesk.{IsLegal}
use Rattle.stm_pool.specs.declared.storm.Counts.{Counts}
use Rattle.stm_pool.specs.Storms.{CountsClients}

-- a history of this many events is legal over the table, and the counts say what each client did in it
pub record IsStormHistory (table : List Declared) (counts : List Counts) (events : ℕ) (history : List Event) : Type 0 where
  pub legal : IsLegal table history
  pub many : events ≡ length history
  pub counted : CountsClients history 0 counts

-- a history of this many events isn't legal over the table, and the counts say what each client did in it
pub record IsIllegalStormHistory (table : List Declared) (counts : List Counts) (events : ℕ) (history : List Event) : Type 0 where
  pub illegal : ¬ IsLegal table history
  pub many : events ≡ length history
  pub counted : CountsClients history 0 counts
