-- The events that a console adds, and its checkpoint, can be in lines of a history.
use Rattle.std.specs.Prelude.{◌≡◌, ⊤, ℕ, Bool, ◌||◌, List, [], ◌∷◌, ◌++◌, Some, Ok}
use Rattle.stm_store.specs.Naming.{AreKnown, Named}
use Rattle.stm_events.specs.declared.event.Event.{Event}
use Rattle.stm_events.specs.declared.event.What.{What}
use Rattle.stm_events.specs.declared.event.What.TheVariants.{Submitted, Installed, Finished, Cancelled, Declared as DeclaredLate, Labelled}
use Rattle.stm_events.specs.SlowDesk.{Slow, after, state_from}
use Rattle.stm_events.specs.States.{IsLegalFrom}
use Rattle.stm_machine.specs.Checkpoints.{CheckpointView, MayStart}
use Rattle.stm_history_file.specs.Durable.{FitLines, IsFormatFor}
use Rattle.stm_source.specs.CompiledBlock.{compiled_block}
use Rattle.stm_desk.specs.DeskView.{start_state}
use Rattle.stm_run.specs.declared.console.Console.{Console}
use Rattle.stm_run.specs.ConsoleState.{present_desk, table_of, checkpoint_of_console, events_of, with_checkpoint}
use Rattle.stm_run.specs.Fitting.{VariablesFit}
use Rattle.stm_run.specs.Growing.{Grows}
use Rattle.stm_journaled_run.specs.DurableRun.{start_in}
use Rattle.stm_journaled_run.specs.Ranges.{AreEventsInRange, AreCellsInRange, AreBlocksInRange}
use Rattle.stm_history.specs.Judgement.{FitsBefore}
use Rattle.stm_history_text.specs.Starts.{declares, labels_blocks}

-- over the names, a block that is submitted is what its text checks to
abbrev pub IsOfItsText : List Named → What → Type 0
IsOfItsText known (Submitted ticket block) = compiled_block known block.text ≡ Ok block
IsOfItsText known (Installed ticket v) = ⊤
IsOfItsText known (Finished ticket v first_new stale) = ⊤
IsOfItsText known (Cancelled ticket) = ⊤
IsOfItsText known (DeclaredLate name kind value) = ⊤
IsOfItsText known (Labelled ticket label) = ⊤

-- each block that is submitted, from a state on, is, over the names of the state before
abbrev pub AreTexts : Slow → List Event → Type 0
AreTexts s [] = ⊤
AreTexts s (e ∷ es) = IsOfItsText s.names e.what × AreTexts (after s e.what) es

-- some event needs the format of late declarations and labels: it declares a variable, or labels a block
abbrev pub needs_declaring_format : List Event → Bool
needs_declaring_format es = declares es || labels_blocks es

-- the state in which the events of the console begin
abbrev pub first_state_of : Console → Slow
first_state_of s = start_state (present_desk s).desk

-- A run may begin as this console: its variables can be in lines, and so can all that comes before its events; and its blocks are of
-- their texts.
pub record MayBeginRun (s : Console) : Type 0 where
  pub variables : VariablesFit (table_of s)
  pub start : FitsBefore (table_of s) (checkpoint_of_console s)
  pub texts : AreTexts (first_state_of s) (events_of s)

-- If the numbers and values of the last events are in range, these can be in lines of a history in each format for all of them.
abbrev pub LastEventsFit : Type 0
LastEventsFit =
    (t : Console) (format : ℕ) (front back : List Event) → MayBeginRun t → MayStart (table_of t) (checkpoint_of_console t)
    → IsLegalFrom (first_state_of t) (events_of t) → IsFormatFor format (checkpoint_of_console t) (events_of t) → events_of t ≡ front ++ back
    → AreEventsInRange back → FitLines (start_in format t) (state_from (first_state_of t) front) back

-- if the values of a checkpoint are in range, it can be in lines: a run may begin as the console that made it
abbrev pub CheckpointsFit : Type 0
CheckpointsFit =
    (s t : Console) (c : CheckpointView) → MayBeginRun s → Grows s t → VariablesFit (table_of t)
    → checkpoint_of_console (with_checkpoint t) ≡ Some c → MayStart (table_of t) (Some c) → AreKnown c.names → AreCellsInRange c.store → AreBlocksInRange c.blocks
    → MayBeginRun (with_checkpoint t)
