-- What a client is shown of a desk.
use Rattle.std.specs.Prelude.{◌≡◌, ◌≢◌, ◌⊎◌, ◌≤◌, ◌<◌, List, length}
use Rattle.stm_store.specs.Tables.{Declared}
use Rattle.stm_store.specs.Cells.{plains}
use Rattle.stm_events.specs.declared.event.Event.{Event}
use Rattle.stm_events.specs.SlowDesk.{IsLegal, state}
use Rattle.stm_pool.specs.declared.guarded.View.{View}
use Rattle.stm_pool.specs.Own.{Known, own_of, having_seen}

-- the history lacks what the client did or has seen: its events of the client aren't those of the pass, or it is shorter than what was seen
abbrev pub LacksKnown : List Event → Known → Type 0
LacksKnown history pass = (own_of pass.client history ≢ pass.own) ⊎ (length history < pass.seen)

-- the store and the length of a legal history, which is no shorter than what the client has seen
pub record IsPresentView (table : List Declared) (history : List Event) (old new : Known) (v : View) : Type 0 where
  pub legal : IsLegal table history
  -- the store after the history, and how many events it has
  pub store : v.store ≡ plains (state table history).store
  pub events : v.events ≡ length history
  -- they are no fewer than the client had seen, and it has seen them from then on
  pub grown : old.seen ≤ v.events
  pub noted : new ≡ having_seen old v.events

-- the store and the length of a legal history, which is no shorter than what the client has seen and has the client's events
pub record IsShown (table : List Declared) (history : List Event) (old new : Known) (v : View) : Type 0 where
  pub own : own_of old.client history ≡ old.own
  pub present : IsPresentView table history old new v

-- the client is shown the store and the length of a legal history over some variables, which is no shorter than what it has seen
pub record IsPresentSome (old new : Known) (v : View) : Type 0 where
  pub table : List Declared
  pub history : List Event
  pub present : IsPresentView table history old new v

-- the client is shown the store and the length of a legal history over some variables, which is no shorter than what it has seen and
-- has its events
pub record IsShownSome (old new : Known) (v : View) : Type 0 where
  pub table : List Declared
  pub history : List Event
  pub shown : IsShown table history old new v
