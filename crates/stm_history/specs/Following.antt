-- What goes through a history, event by event.
use Rattle.std.specs.Prelude.{◌≡◌, ◌≤◌, List, length, IfSome}
use Rattle.stm_store.specs.Cells.{plains}
use Rattle.stm_events.specs.declared.event.Event.{Event}
use Rattle.stm_events.specs.declared.event.What.{What}
use Rattle.stm_events.specs.SlowDesk.{Slow, Allows}
use Rattle.stm_events.specs.States.{IsLegalFrom}
use Rattle.stm_machine.specs.Checkpoints.{max_next}
use Rattle.stm_machine.specs.Machine.{Parts, IsAt}
use Rattle.stm_source.specs.LaterNames.{NamesFollow}
use Rattle.stm_history.specs.declared.replayer.Replayer.{Replayer}
use Rattle.stm_history_text.specs.Starts.{Start, first_state, names_after, state_after_start}

-- no state that the machine is at allows what happens
abbrev pub IsForbidden : What → Parts → Type 0
IsForbidden what m = (s : Slow) → IsAt m s → Allows s what → ⊥

-- the events so far are this history, which is legal from the start; those that are kept, if they are, are the same; a copy, if
-- there is one, is of the present store; there are tickets for as many events as a history may have; and the blocks that are kept by
-- their texts were checked over some of the present names
pub record Follows (start : Start) (history : List Event) (r : Replayer) : Type 0 where
  pub legal : IsLegalFrom (first_state start) history
  pub at : IsAt r.machine (state_after_start start history)
  pub tickets : (first_state start).next ≤ max_next
  pub counted : r.events ≡ length history
  pub copied : IfSome r.copy (λ cells. cells ≡ plains r.machine.store)
  pub kept : IfSome r.kept (λ events. events.items ≡ history)
  pub blocks : NamesFollow r.blocks (names_after start history)
