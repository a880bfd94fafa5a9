-- The whole life of a desk, over any number of checkpoints and restarts. A history begins from the desk's last checkpoint, so no history
-- that is kept has all events.
use Rattle.std.specs.Prelude.{◌≡◌, List, [], ◌∷◌, ◌++◌}
use Rattle.stm_events.specs.declared.event.Event.{Event}
use Rattle.stm_events.specs.HeadlineFrom.{HeadlineHoldsFrom}
use Rattle.stm_events.specs.SlowDesk.{Slow, LegalFrom, state_from, serial, serial_steps_from}
use Rattle.stm_events.specs.States.{IsPossible, observed}
use Rattle.stm_machine.specs.Checkpoints.{CheckpointView, IsCheckpoint, checkpoint_state}

-- the events up to a checkpoint, and the checkpoint
pub record Stretch : Type 0 where
  pub events : List Event
  pub checkpoint : CheckpointView

-- it is a checkpoint, and from its state the same is observed as from this one
abbrev pub IsCheckpointAt : Slow → CheckpointView → Type 0
IsCheckpointAt s c = IsCheckpoint c × (observed (checkpoint_state c) ≡ observed s)

-- From a state on: the events of each stretch are legal, its checkpoint is one of the state that they lead to, and the next stretch goes on
-- from the checkpoint's state, as a desk does that goes on, and one that is read from a file; the last events have no checkpoint yet.
abbrev pub IsLife : Slow → List Stretch → List Event → Type 0
IsLife s [] last = LegalFrom s last
IsLife s (g ∷ gs) last =
    LegalFrom s g.events × IsCheckpointAt (state_from s g.events) g.checkpoint × IsLife (checkpoint_state g.checkpoint) gs last

-- all events of a life, one after another
abbrev pub events_of_life : List Stretch → List Event → List Event
events_of_life [] last = last
events_of_life (g ∷ gs) last = g.events ++ events_of_life gs last

-- the state that a life has come to
abbrev pub state_of_life : Slow → List Stretch → List Event → Slow
state_of_life s [] last = state_from s last
state_of_life s (g ∷ gs) last = state_of_life (checkpoint_state g.checkpoint) gs last

-- What holds of a life: its events are one legal history; the same is observed of the desk as if there had been no checkpoint; the
-- store is that of running all blocks that ever finished alone and of making all declared variables, one after another; and the headline
-- holds of the whole history.
pub record IsOneHistory (s : Slow) (gs : List Stretch) (last : List Event) : Type 0 where
  pub legal : LegalFrom s (events_of_life gs last)
  pub same : observed (state_of_life s gs last) ≡ observed (state_from s (events_of_life gs last))
  pub store : (state_of_life s gs last).store ≡ serial s.store (serial_steps_from s (events_of_life gs last))
  pub headline : HeadlineHoldsFrom s (events_of_life gs last)

-- so it is of every life that begins from a state that events may go on from
abbrev pub LivesAreHistories : Type 0
LivesAreHistories = (s : Slow) (gs : List Stretch) (last : List Event) → IsPossible s → IsLife s gs last → IsOneHistory s gs last
