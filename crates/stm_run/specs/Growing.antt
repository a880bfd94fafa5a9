-- A console only adds events, but for a checkpoint, after which it has none.
use Rattle.std.specs.Prelude.{◌≡◌, true, ℕ, List, ◌++◌, MatchBool}
use Rattle.stm_events.specs.declared.event.Event.{Event}
use Rattle.stm_events.specs.SlowDesk.{state_from}
use Rattle.stm_desk.specs.DeskView.{start_state}
use Rattle.stm_run.specs.declared.console.Console.{Console}
use Rattle.stm_run.specs.Console.{state_after}
use Rattle.stm_run.specs.ConsoleState.{present_desk, is_open, table_of, checkpoint_of_console, events_of, with_checkpoint}
use Rattle.stm_run.specs.Fitting.{AreOfTexts}
use Rattle.stm_run.specs.LineCheckpoints.{line_checkpoints}

-- The later console has the events of the earlier one, and perhaps others after them, each of client 0 and of its text. They
-- begin from the same checkpoint, or from none. Once the desk is open, it stays open on the same table.
pub record Grows (earlier later : Console) : Type 0 where
  pub added : List Event
  pub events : events_of later ≡ events_of earlier ++ added
  pub of_console : AreOfTexts (state_from (start_state (present_desk later).desk) (events_of earlier)) added
  pub same_start : checkpoint_of_console later ≡ checkpoint_of_console earlier
  pub opened : is_open earlier ≡ true → (is_open later ≡ true) × (table_of later ≡ table_of earlier)

-- each line makes a checkpoint, or lets the console grow
abbrev pub ConsolesGrow : Type 0
ConsolesGrow =
    (s : Console) (line : List ℕ)
    → MatchBool (line_checkpoints s line) (state_after s line ≡ with_checkpoint s) (Grows s (state_after s line))
