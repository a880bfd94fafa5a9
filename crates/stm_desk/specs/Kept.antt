-- What the type of a desk keeps: its history is legal from where it begins and no longer than it may be, its machine is at the state
-- that the history leads to, the blocks that were submitted are well typed, and it has the labels that the history gives.
use Rattle.std.specs.Prelude.{ℕ, ◌≤◌, List, length, Option}
use Rattle.stm_store.specs.Tables.{Declared}
use Rattle.stm_events.specs.declared.event.Event.{Event}
use Rattle.stm_events.specs.Labels.{Labels, AreLabels, AreSameLabels}
use Rattle.stm_events.specs.SlowDesk.{state_from}
use Rattle.stm_terms.specs.Limits.{max_events}
use Rattle.stm_events.specs.States.{IsLegalFrom}
use Rattle.stm_events.specs.Laws.{SubmittedAreWellTyped}
use Rattle.stm_machine.specs.Checkpoints.{CheckpointView, start_of, labels_of_history, MayStart}
use Rattle.stm_machine.specs.Machine.{Parts, IsAt}

-- the history may begin from the checkpoint, if there is one, and is legal from there; the machine is at its state; and it has no more
-- events than the desk takes, and well typed blocks alone
pub record DeskInvariant
    (table : List Declared) (checkpoint : Option CheckpointView) (limit : ℕ) (history : List Event) (m : Parts) : Type 0 where
  pub start : MayStart table checkpoint
  pub legal : IsLegalFrom (start_of table checkpoint) history
  pub at : IsAt m (state_from (start_of table checkpoint) history)
  pub few : length history ≤ limit
  pub small : limit ≤ max_events
  pub typed : SubmittedAreWellTyped history

-- the labels that are kept are those with which the history begins, as its events change them
pub record HasLabels (checkpoint : Option CheckpointView) (history : List Event) (held : Labels) : Type 0 where
  pub same : AreSameLabels held (labels_of_history checkpoint history)
  pub each : AreLabels held
