-- A run whose history is kept in a file.
use Rattle.std.specs.Prelude.{◌≡◌, ◌≢◌, ◌≤◌, ◌⊎◌, ⊤, ℕ, Bool, true, false, IsTrue, IfSome, List, [], ◌++◌, length, Option, Some, None, Result, Ok, Err, is_some}
use Rattle.stm_terms.specs.Texts.{IsPrefixOf}
use Rattle.stm_events.specs.declared.event.Event.{Event}
use Rattle.stm_events.specs.SlowDesk.{state_from}
use Rattle.stm_machine.specs.Checkpoints.{start_of}
use Rattle.stm_history.specs.declared.loading.Loaded.{Loaded}
use Rattle.stm_history_text.specs.HistoryText.{start_text}
use Rattle.stm_history_text.specs.Starts.{Start}
use Rattle.stm_journal.specs.declared.error.JournalError.{JournalError}
use Rattle.stm_journal.specs.declared.error.JournalError.TheVariants.{NoMemory, Failed, NoSpace, TornTooLong}
use Rattle.stm_journal.specs.declared.sync_mode.SyncMode.{SyncMode}
use Rattle.stm_journal.specs.Disk.{Disk, MayFail, FailsOnlyIfAny}
use Rattle.stm_journal.specs.Device.{Own}
use Rattle.stm_history_file.specs.Durable.{HistoryKept, IsFormatFor, LeavesHistory}
use Rattle.stm_history_file.specs.declared.recording.HistoryFile.{HistoryFile}
use Rattle.stm_lines.specs.RunStatus.{status_of}
use Rattle.stm_commands.specs.DueTickets.{queue_for}
use Rattle.stm_commands.specs.OpenDesk.{without_jobs}
use Rattle.stm_run.specs.declared.console.Console.{Console}
use Rattle.stm_run.specs.declared.console.Console.TheVariants.{Open}
use Rattle.stm_run.specs.Console.{initial_console}
use Rattle.stm_run.specs.ConsoleState.{is_open, table_of, checkpoint_of_console, start_of_console, events_of}
use Rattle.stm_run.specs.LineCheckpoints.{Turn, states_after, answers_by}
use Rattle.stm_journaled_run.specs.declared.fault.DurableFault.{DurableFault}
use Rattle.stm_journaled_run.specs.declared.fault.DurableFault.TheVariants.{Run, Journal}

-- ---- going on

-- The console that a file gives: one that is open on its history, with each new and each stale block queued and no job out; of a file
-- with no history, one that declares.
abbrev pub resumed_console : ℕ → Option Loaded → Console
resumed_console limit None = initial_console limit
resumed_console limit (Some h) =
    Open (without_jobs (record {
      table = h.table;
      checkpoint = h.checkpoint;
      limit = limit;
      history = h.events.items;
      pending = queue_for [] (state_from (start_of h.table h.checkpoint) h.events.items).waiters;
    }))

-- if a history was loaded, it has at most this many events
abbrev pub LoadsAtMost : ℕ → Option Loaded → Type 0
LoadsAtMost limit loaded = IfSome loaded (λ h. length h.events.items ≤ limit)

-- where the history of the console begins, written in this format
abbrev pub start_in : ℕ → Console → Start
start_in format s = record { format = format; table = table_of s; checkpoint = checkpoint_of_console s }

-- the file's format is one for the history of the console
abbrev pub HasFormat : {D : Type 0} → HistoryFile D → Console → Type 0
HasFormat f s = IsFormatFor f.format (checkpoint_of_console s) (events_of s)

-- The file has exactly the history of the console from its last checkpoint on, in a format for it, on the disk if the journal syncs;
-- before the desk is open it has nothing.
pub record ConsoleKept {D : Type 0} (disk : Disk D) (f : HistoryFile D) (s : Console) : Type 0 where
  pub history : HistoryKept disk f (start_in f.format s) (events_of s)
  pub format : HasFormat f s
  pub begun_if_open : f.begun ≡ is_open s

-- the file has exactly the history of the console, if the disk does what it says; its format is known on each disk
abbrev pub KeepsConsole : {D : Type 0} → Disk D → HistoryFile D → Console → Type 0
KeepsConsole disk f s = HasFormat f s × (IsTrue disk.is_honest → ConsoleKept disk f s)

-- ---- what a run leaves

-- Some of these lines were answered, from the first on: the file has exactly their history, and no more than their answers was
-- written. After a line that adds an event there is a checkpoint if the history has `every` events, unless it can't be made.
pub record HasCommitted
    {D : Type 0} {Cause : Type 0} (disk : Disk D) (f : HistoryFile D) (every : ℕ) (s : Console) (lines : List (Turn Cause)) (written : List ℕ) : Type 0 where
  pub answered : List (Turn Cause)
  pub others : List (Turn Cause)
  pub parts : lines ≡ answered ++ others
  pub front : IsPrefixOf written (answers_by every s answered)
  pub kept : ConsoleKept disk f (states_after every s answered)

-- What a crash may leave after all events of the earlier console were recorded, and while those are recorded that follow up to the
-- later one, if there is no checkpoint between them: a batch of events was begun after a history that has all events of the
-- earlier one. Both are in one format, which is one for all of these.
pub record LeavesEvents (sync : SyncMode) (zeros : Bool) (earlier later : Console) (file : List ℕ) : Type 0 where
  pub format : ℕ
  pub begun : Bool
  pub recorded : List Event
  pub batch : List Event
  pub unrecorded : List Event
  pub parts : events_of later ≡ (events_of earlier ++ recorded) ++ (batch ++ unrecorded)
  pub same_start : checkpoint_of_console later ≡ checkpoint_of_console earlier
  pub same_table : is_open earlier ≡ true → table_of later ≡ table_of earlier
  pub begun_if_open : is_open earlier ≡ true → begun ≡ true
  pub none : begun ≡ false → events_of earlier ++ recorded ≡ []
  pub written : IsFormatFor format (checkpoint_of_console later) ((events_of earlier ++ recorded) ++ batch)
  pub left : LeavesHistory sync zeros begun (start_in format later) (events_of earlier ++ recorded) batch file

-- What a crash leaves once a new file has taken the place of the old one, if the console has just made a checkpoint: all lines of the
-- checkpoint, and no event.
pub record LeavesCheckpoint (s : Console) (file : List ℕ) : Type 0 where
  pub begun : is_some (checkpoint_of_console s) ≡ true
  pub none : events_of s ≡ []
  pub text : file ≡ start_text (start_of_console s)

-- what a crash may leave of the file of the earlier console, while it comes to be that of the later one, which is the same or follows it
abbrev pub LeavesBetween : SyncMode → Bool → Console → Console → List ℕ → Type 0
LeavesBetween sync zeros earlier later file = LeavesEvents sync zeros earlier later file ⊎ LeavesCheckpoint later file

-- What a crash may leave of a run of which this was written: each event whose answer was written, even in part, is in the file or
-- was before a checkpoint that the file has, perhaps with some of the events that followed, and nothing else.
pub record CoversAnswers
    {Cause : Type 0} (sync : SyncMode) (zeros : Bool) (every : ℕ) (s : Console) (lines : List (Turn Cause)) (written file : List ℕ) : Type 0 where
  -- the lines whose answers were written, the last perhaps in part
  pub answered : List (Turn Cause)
  pub others : List (Turn Cause)
  pub parts : lines ≡ answered ++ others
  pub front : IsPrefixOf written (answers_by every s answered)
  -- the lines after them whose events the file may have, too
  pub reached : List (Turn Cause)
  pub unreached : List (Turn Cause)
  pub parts_reached : others ≡ reached ++ unreached
  pub left : LeavesBetween sync zeros (states_after every s answered) (states_after every s (answered ++ reached)) file

-- the journal didn't fail
abbrev pub IsNoJournalFault : {A : Type 0} → Result A DurableFault → Type 0
IsNoJournalFault (Ok x) = ⊤
IsNoJournalFault (Err (Run f)) = ⊤
IsNoJournalFault (Err (Journal e)) = ⊥

-- beside the disk, recording may fail since a batch or the file is too long; whether it is isn't said here
abbrev pub long_or_full : Own
long_or_full = record { full = ⊤; too_long = ⊤; torn_too_long = ⊥ }

-- recording fails only by the disk, if memory runs out, or with the error that a batch or the file is too long
abbrev pub RecordsUnlessDisk : {D T : Type 0} → Disk D → Result T JournalError → Type 0
RecordsUnlessDisk disk result = FailsOnlyIfAny disk long_or_full result

-- A run's journal gives up only by the disk: on a disk on which no call fails it returns neither of the disk's errors.
pub record HasRunCause {D : Type 0} (disk : Disk D) (e : DurableFault) : Type 0 where
  pub failed : e ≡ Journal Failed → MayFail disk
  pub no_space : e ≡ Journal NoSpace → MayFail disk
  pub torn_too_long : e ≡ Journal TornTooLong → ⊥

-- so it does if the disk is honest
abbrev pub RunsUnlessDisk : {D : Type 0} → Disk D → DurableFault → Type 0
RunsUnlessDisk disk e = IsTrue disk.is_honest → HasRunCause disk e

-- Why a checkpoint can't be made: the file refuses it with this error, or has refused one before. On a disk on which no call fails the
-- error is that a line of the checkpoint or the file would be too long. Memory that runs out is no such cause: it ends the run.
pub record RefusalCause {D : Type 0} (disk : Disk D) : Type 0 where
  pub error : JournalError
  pub not_memory : error ≢ NoMemory
  pub cause : RunsUnlessDisk disk (Journal error)

-- the file has what it had of each console, and more can be recorded in it
abbrev pub KeepsConsoles : {D : Type 0} → Disk D → HistoryFile D → HistoryFile D → Type 0
KeepsConsoles disk old new = (s : Console) → KeepsConsole disk old s → KeepsConsole disk new s

-- the exit status after a fault
abbrev pub durable_status : DurableFault → ℕ
durable_status (Run f) = status_of f
durable_status (Journal NoMemory) = 4
durable_status (Journal e) = 1
