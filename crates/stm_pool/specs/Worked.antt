-- What a worker does to its pass.
use Rattle.std.specs.Prelude.{◌≡◌, Bool, true, ◌&&◌, List, [], ◌∷◌, ◌++◌}
use Rattle.stm_events.specs.declared.event.Event.{Event}
use Rattle.stm_events.specs.SlowSettle.{is_install}
use Rattle.stm_pool.specs.Own.{Known}

-- whether all events are deliveries
abbrev pub are_installed : List Event → Bool
are_installed [] = true
are_installed (e ∷ es) = is_install e.what && are_installed es

-- it is the pass of the same client, which has seen no more than before, and to whose events only deliveries were added
pub record OnlyDelivers (old new : Known) : Type 0 where
  pub client : new.client ≡ old.client
  pub seen : new.seen ≡ old.seen
  pub added : List Event
  pub own : new.own ≡ old.own ++ added
  pub installed : are_installed added ≡ true
