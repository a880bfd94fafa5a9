-- What the console knows between two lines.
use Rattle.std.specs.Prelude.{Bool, true, false, List, Option}
use Rattle.stm_store.specs.Tables.{Declared}
use Rattle.stm_events.specs.declared.event.Event.{Event}
use Rattle.stm_machine.specs.Checkpoints.{CheckpointView}
use Rattle.stm_history_text.specs.Starts.{Start, written_start}
use Rattle.stm_desk.specs.Checkpointed.{checkpoint_now}
use Rattle.stm_run.specs.declared.console.Console.{Console}
use Rattle.stm_run.specs.declared.console.Console.TheVariants.{Declaring, Open}
use Rattle.stm_commands.specs.Checkpointing.{begun_anew}
use Rattle.stm_commands.specs.OpenDesk.{OpenDesk, opened_desk}

-- the desk that is open; before it opens, the one that it will open as
abbrev pub present_desk : Console → OpenDesk
present_desk (Declaring table limit) = opened_desk table limit
present_desk (Open d) = d

-- whether the desk is open
abbrev pub is_open : Console → Bool
is_open (Declaring table limit) = false
is_open (Open d) = true

-- the variables that are declared first
abbrev pub table_of : Console → List Declared
table_of s = (present_desk s).desk.table

-- the checkpoint that the history begins from, if there was one
abbrev pub checkpoint_of_console : Console → Option CheckpointView
checkpoint_of_console s = (present_desk s).desk.checkpoint

-- the events so far, since the last checkpoint
abbrev pub events_of : Console → List Event
events_of s = (present_desk s).desk.history

-- where the history begins, as it is written
abbrev pub start_of_console : Console → Start
start_of_console s = written_start (table_of s) (checkpoint_of_console s) (events_of s)

-- the checkpoint of the present state of its desk
abbrev pub present_checkpoint : Console → CheckpointView
present_checkpoint s = checkpoint_now (present_desk s).desk

-- the console with a checkpoint of its desk: the history is empty, and begins from the present state
abbrev pub with_checkpoint : Console → Console
with_checkpoint s = Open (begun_anew (present_desk s))
