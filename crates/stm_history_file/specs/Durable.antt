-- The file of a history: nothing before its first batch, and then exactly the text of docs/HISTORY.md.
use Rattle.std.specs.Prelude.{◌≡◌, ◌≢◌, ◌⊎◌, ⊤, ◌≤◌, ◌<◌, ◌+◌, Option, Some, None, ℕ, Bool, true, false, IsTrue, List, [], ◌∷◌, ◌++◌, length, take, drop, codes, IfSome, Result, Ok, Err}
use Rattle.std.specs.Borrow.{Bor}
use Rattle.stm_terms.specs.UnlessNoMemory.{AnswersUnless}
use Rattle.stm_store.specs.Tables.{Declared}
use Rattle.stm_events.specs.declared.event.Event.{Event}
use Rattle.stm_events.specs.SlowDesk.{Slow, after}
use Rattle.stm_events.specs.States.{IsLegalFrom}
use Rattle.stm_machine.specs.Checkpoints.{CheckpointView}
use Rattle.stm_event_lines.specs.Fits.{FitsNames, FitsFormat}
use Rattle.stm_event_lines.specs.Lines.{declaring_format}
use Rattle.stm_history_text.specs.HistoryText.{event_lines, history_text, start_text}
use Rattle.stm_history.specs.Judgement.{AreEvents, AreShortLines, FormatFits, StartFits}
use Rattle.stm_history.specs.Loading.{IsWholeHistory, ReportsLoadFault, loaded_start}
use Rattle.stm_history.specs.Loading.{IsResumable}
use Rattle.stm_history_text.specs.Starts.{BlocksAreOfText, Start, first_state, format_for, lent_start, read_back, state_after_start}
use Rattle.stm_history.specs.declared.loading.Loaded.{Loaded}
use Rattle.stm_journal.specs.declared.sync_mode.SyncMode.{SyncMode}
use Rattle.stm_journal.specs.declared.sync_mode.SyncMode.TheVariants.{Full, Sector, Append, Never}
use Rattle.stm_journal.specs.declared.error.JournalError.{JournalError}
use Rattle.stm_journal.specs.declared.error.JournalError.TheVariants.{Failed, NoMemory, NoSpace, Full as FullFile, TooLong, TornTooLong}
use Rattle.stm_journal.specs.declared.replace.ReplaceError.{ReplaceError}
use Rattle.stm_journal.specs.declared.replace.ReplaceError.TheVariants.{Refused, Unfinished}
use Rattle.stm_journal.specs.Device.{Own, most_file, only_full}
use Rattle.stm_journal.specs.Disk.{Disk, LeavesOnly, Shows, IsSettled, CrashLeaves, FailsOnlyIf, FailsOnlyIfAny}
use Rattle.stm_journal.specs.FirstBatch.{IsBegun}
use Rattle.stm_journal.specs.Journal.{AtRest, HasSameLines, LeavesSameLines, ShowsSameLines, most_batch}
use Rattle.stm_journal.specs.Text.{recovered, dropped_count}
use Rattle.stm_history_file.specs.declared.recording.HistoryFile.{HistoryFile}
use Rattle.stm_history_file.specs.declared.resuming.OpenFault.{OpenFault}
use Rattle.stm_history_file.specs.declared.resuming.OpenFault.TheVariants.{Journal, History, Foreign}
use Rattle.stm_history_file.specs.declared.resuming.Opened.{Opened}

-- where the history of the file begins, with this table and, if it does, from a checkpoint that is lent: in the format of the file
abbrev pub start_of_file : {D : Type 0} → HistoryFile D → List Declared → Option (Bor CheckpointView) → Start
start_of_file f table checkpoint = lent_start f.format table checkpoint

-- The format is the one in which a history is written that begins so and has these events, or that of late declarations and labels, in
-- which each history can be written.
abbrev pub IsFormatFor : ℕ → Option CheckpointView → List Event → Type 0
IsFormatFor format checkpoint history = (format ≡ format_for checkpoint history) ⊎ (format ≡ declaring_format)

-- what the file has
abbrev pub file_text : Bool → Start → List Event → List ℕ
file_text false start history = []
file_text true start history = history_text start history

-- what a batch of events adds to it: the first one also the lines before the events
abbrev pub batch_text : Bool → Start → List Event → List ℕ
batch_text false start events = history_text start events
batch_text true start events = event_lines events

-- How a batch is synced: the first one, in which no line is of use without those before the events, with `Full`, if at all.
abbrev pub batch_sync : SyncMode → Bool → SyncMode
batch_sync Full begun = Full
batch_sync Sector true = Sector
batch_sync Sector false = Full
batch_sync Append true = Append
batch_sync Append false = Full
batch_sync Never begun = Never

-- the file has exactly this history, whose format it knows, and all of it is on the disk, if the journal syncs
pub record HistoryKept {D : Type 0} (disk : Disk D) (f : HistoryFile D) (start : Start) (history : List Event) : Type 0 where
  pub at_rest : AtRest disk f.journal.device f.journal.sync f.journal.len
  pub text : disk.seen f.journal.device ≡ file_text f.begun start history
  pub none : f.begun ≡ false → history ≡ []
  pub format_is : f.begun ≡ true → f.format ≡ start.format

-- the same, if the device is honest
abbrev pub KeepsHistory : {D : Type 0} → Disk D → HistoryFile D → Start → List Event → Type 0
KeepsHistory disk f start history = IsTrue disk.is_honest → HistoryKept disk f start history

-- the file has some history that begins there
abbrev pub KeepsSome : {D : Type 0} → Disk D → HistoryFile D → Start → Type 0
KeepsSome disk f start = IsTrue disk.is_honest → (history : List Event) × HistoryKept disk f start history

-- the file has some history, whatever its start is
abbrev pub KeepsAny : {D : Type 0} → Disk D → HistoryFile D → Type 0
KeepsAny disk f = IsTrue disk.is_honest → (start : Start) × (history : List Event) × HistoryKept disk f start history

-- each event, from a state on, can be in a line over the names of the state before it, in a history of the format
abbrev pub AreFit : ℕ → Slow → List Event → Type 0
AreFit format s [] = ⊤
AreFit format s (e ∷ es) = FitsNames s.names e × FitsFormat format e × AreFit format (after s e.what) es

-- the start can be in lines, and so can the events, from a state on
pub record FitLines (start : Start) (s : Slow) (events : List Event) : Type 0 where
  pub format_fits : FormatFits start.format start.checkpoint
  pub start_fits : StartFits start
  pub fit : AreFit start.format s events

-- the start can be in lines, and so can these events, from some state on
abbrev pub CanBeRecorded : Start → List Event → Type 0
CanBeRecorded start events = (s : Slow) × FitLines start s events

-- ---- crashes

-- The file stands for the history, with all of these events or with none of them. Opening it drops no more bytes than a batch
-- has.
pub record HasAllEventsOrNone (begun : Bool) (start : Start) (history events : List Event) (file : List ℕ) : Type 0 where
  pub lines : (recovered file ≡ file_text begun start history) ⊎ (recovered file ≡ history_text start (history ++ events))
  pub dropped : dropped_count file ≤ most_batch

-- The file stands for the history and the first of these events, this many of them.
pub record HasFirst (start : Start) (history events : List Event) (file : List ℕ) : Type 0 where
  pub count : ℕ
  pub lines : recovered file ≡ history_text start (history ++ take count events)
  pub dropped : dropped_count file ≤ most_batch

-- The file stands for the history, and perhaps for lines after it, about which nothing is said.
pub record KeepsHistoryLines (begun : Bool) (start : Start) (history : List Event) (file : List ℕ) : Type 0 where
  pub more : List ℕ
  pub lines : recovered file ≡ file_text begun start history ++ more
  pub dropped : dropped_count file ≤ most_batch

-- what a crash may leave of a batch that is synced in this way, by whether the device fills with zeros
abbrev pub LeavesBatch : SyncMode → Bool → Bool → Start → List Event → List Event → List ℕ → Type 0
LeavesBatch Full zeros begun start history events file = HasAllEventsOrNone begun start history events file
LeavesBatch Sector zeros begun start history events file = HasAllEventsOrNone begun start history events file
LeavesBatch Append true begun start history events file = HasFirst start history events file
LeavesBatch Append false begun start history events file = KeepsHistoryLines begun start history file
LeavesBatch Never zeros begun start history events file = ⊤

-- what a crash may leave while events are recorded after a history, and what the file may be after an error
abbrev pub LeavesHistory : SyncMode → Bool → Bool → Start → List Event → List Event → List ℕ → Type 0
LeavesHistory sync zeros begun start history events file =
    LeavesBatch (batch_sync sync begun) zeros begun start history events file

-- ---- other files

-- how each history begins
abbrev pub history_front : List ℕ
history_front = codes "{\"format\":"

-- The file is some other one: it has no line of a history, and isn't one in which a first batch was begun.
pub record IsForeign (file : List ℕ) : Type 0 where
  pub nothing : recovered file ≡ []
  pub other : IsBegun history_front file → ⊥

-- A first batch is begun in the file, or all of it is there, with any byte in place of the first one.
abbrev pub IsBegunOrWhole : List ℕ → List ℕ → Type 0
IsBegunOrWhole batch file = IsBegun history_front file ⊎ (drop 1 file ≡ drop 1 batch)

-- A file that is some other one has all of the first batch but for its first byte.
abbrev pub IsOwn : Bool → Start → List Event → List ℕ → Type 0
IsOwn begun start events file = IsForeign file → (begun ≡ false) × (drop 1 file ≡ drop 1 (history_text start events))

-- ---- recording

-- these events come after each history that the file had
abbrev pub Records : {D : Type 0} → Disk D → HistoryFile D → HistoryFile D → Start → List Event → Type 0
Records disk old new start events =
    IsTrue disk.is_honest → (history : List Event) → HistoryKept disk old start history → HistoryKept disk new start (history ++ events)

-- the file still has each history that it had
abbrev pub KeepsEach : {D : Type 0} → Disk D → HistoryFile D → HistoryFile D → Start → Type 0
KeepsEach disk old new start =
    IsTrue disk.is_honest → (history : List Event) → HistoryKept disk old start history → HistoryKept disk new start history

-- what a file may be while these events are recorded in it
abbrev pub MayBecome : {D : Type 0} → Disk D → HistoryFile D → Start → List Event → List Event → List ℕ → Type 0
MayBecome disk f start history events file =
    LeavesHistory f.journal.sync disk.fills_with_zeros f.begun start history events file

-- A crash at any moment, and an error, leave the history, and of these events what the sync mode promises.
abbrev pub LeavesAtAnyMoment : {D : Type 0} → Disk D → HistoryFile D → HistoryFile D → Start → List Event → Type 0
LeavesAtAnyMoment disk old new start events =
    IsTrue disk.is_honest → (history : List Event) → HistoryKept disk old start history
    → LeavesOnly disk old.journal.device new.journal.device (MayBecome disk old start history events)
    × MayBecome disk old start history events (disk.seen new.journal.device)

-- If the journal syncs, what a crash at any moment leaves, and an error, isn't some other file, unless the crash tears the byte that opens
-- the first batch.
abbrev pub LeavesOwn : {D : Type 0} → Disk D → HistoryFile D → HistoryFile D → Start → List Event → Type 0
LeavesOwn disk old new start events =
    IsTrue disk.is_honest → old.journal.sync ≢ Never → (history : List Event) → HistoryKept disk old start history
    → LeavesOnly disk old.journal.device new.journal.device (IsOwn old.begun start events)
    × IsOwn old.begun start events (disk.seen new.journal.device)

-- The events were recorded.
pub record HasRecorded {D : Type 0} (disk : Disk D) (old new : HistoryFile D) (start : Start) (events : List Event) : Type 0 where
  -- they come after each history that the file had
  pub kept : Records disk old new start events
  -- the file has the lines before the events
  pub begun : new.begun ≡ true
  -- none of their lines is longer than a line of a history may be
  pub short : (s : Slow) → FitLines start s events → AreEvents start.format s events

-- What a crash at any moment leaves, while these events are recorded, and what an error leaves.
pub record LeavesRecording {D : Type 0} (disk : Disk D) (old new : HistoryFile D) (start : Start) (events : List Event) : Type 0 where
  -- the history from before, and of these events what the sync mode promises
  pub left : LeavesAtAnyMoment disk old new start events
  -- if the journal syncs, no other file, unless the crash tears the byte that opens the first batch
  pub own : LeavesOwn disk old new start events

-- a batch that is too long is refused before anything is written: as `TooLong`, unless memory runs out
abbrev pub RefusesLongEvents : {D : Type 0} → HistoryFile D → HistoryFile D → Start → List Event → Result (Unit {0}) JournalError → Type 0
RefusesLongEvents old new start events result =
    most_batch < length (batch_text old.begun start events) → AnswersUnless NoMemory (λ u. u) result (Err TooLong) × (new ≡ old)

-- The call fails only if the disk does, if memory runs out, or if the batch or the file is too long.
abbrev pub RecordsUnless : {D : Type 0} → Disk D → HistoryFile D → HistoryFile D → Start → List Event → Result (Unit {0}) JournalError → Type 0
RecordsUnless disk old new start events result =
    let batch = batch_text old.begun start events in
    FailsOnlyIf disk old.journal.device new.journal.device (record {
      full = most_file < length (disk.seen old.journal.device) + length batch;
      too_long = most_batch < length batch;
      torn_too_long = ⊥;
    }) result

-- ---- beginning again, in a new file

-- A crash at any moment leaves what it might have left before, or a file of just this text.
abbrev pub LeavesOldOrAll : {D : Type 0} → Disk D → HistoryFile D → HistoryFile D → List ℕ → Type 0
LeavesOldOrAll disk old new text =
    CrashLeaves disk old.journal.device new.journal.device (λ c. disk.may_leave old.journal.device c ⊎ (c ≡ text))

-- the file is as it was, or has just this text
abbrev pub IsOldOrAll : {D : Type 0} → Disk D → HistoryFile D → HistoryFile D → List ℕ → Type 0
IsOldOrAll disk old new text =
    IsTrue disk.is_honest → (disk.seen new.journal.device ≡ disk.seen old.journal.device) ⊎ (disk.seen new.journal.device ≡ text)

-- the file has each history that it had, and more can be recorded after it
abbrev pub KeepsHistories : {D : Type 0} → Disk D → HistoryFile D → HistoryFile D → Type 0
KeepsHistories disk old new =
    IsTrue disk.is_honest → (start : Start) (history : List Event) → HistoryKept disk old start history → HistoryKept disk new start history

-- a crash at any moment leaves what it might have left before
abbrev pub LeavesOld : {D : Type 0} → Disk D → HistoryFile D → HistoryFile D → Type 0
LeavesOld disk old new = CrashLeaves disk old.journal.device new.journal.device (disk.may_leave old.journal.device)

-- The file begins with this history: it has just that, and more can be recorded after it.
pub record HasBegunWith {D : Type 0} (disk : Disk D) (f : HistoryFile D) (start : Start) (events : List Event) : Type 0 where
  -- the file has exactly this history, on the disk if the journal syncs
  pub kept : KeepsHistory disk f start events
  -- it has the lines before the events
  pub begun : f.begun ≡ true
  -- in this format
  pub format : f.format ≡ start.format
  -- no line is longer than a line of a history may be
  pub short : IsTrue disk.is_honest → AreShortLines (history_text start events)

-- The file is as it was.
pub record IsUnchanged {D : Type 0} (disk : Disk D) (old new : HistoryFile D) : Type 0 where
  -- reads return the bytes that they returned
  pub seen : Shows disk new.journal.device (disk.seen old.journal.device)
  -- the file has each history that it had, and more can be recorded after it
  pub kept : KeepsHistories disk old new
  -- the first lines and the format are known as before
  pub begun : new.begun ≡ old.begun
  pub format : new.format ≡ old.format
  -- a crash at any moment of the call leaves what it might have left before
  pub any_moment : LeavesOld disk old new

-- The file is as it was, or has just this history; more may be recorded only after it was opened again.
pub record IsOldOrNew {D : Type 0} (disk : Disk D) (old new : HistoryFile D) (start : Start) (events : List Event) (e : JournalError) : Type 0 where
  -- reads return the bytes that they returned, or just the text of the history
  pub seen : IsOldOrAll disk old new (history_text start events)
  -- the error isn't that something is too long: that is refused
  pub error : IsTrue disk.is_honest → (e ≢ TooLong) × (e ≢ FullFile)
  -- the first lines and the format are known as before
  pub begun : new.begun ≡ old.begun
  pub format : new.format ≡ old.format

-- What `begin_anew` has done to the file, by its result.
abbrev pub BeginsAs :
    {D : Type 0} → Disk D → HistoryFile D → HistoryFile D → Start → List Event → Result (Unit {0}) ReplaceError → Type 0
BeginsAs disk old new start events (Ok x) = HasBegunWith disk new start events
BeginsAs disk old new start events (Err (Refused e)) = IsUnchanged disk old new
BeginsAs disk old new start events (Err (Unfinished e)) = IsOldOrNew disk old new start events e

-- The call fails only if devices of this kind may fail, since the one that failed is lost; if memory runs out; or if a line of the history or
-- the file is too long.
abbrev pub BeginsUnless : {D T : Type 0} → Disk D → Start → List Event → Result T JournalError → Type 0
BeginsUnless disk start events result =
    FailsOnlyIfAny disk (record {
      full = most_file < length (history_text start events);
      too_long = AreShortLines (history_text start events) → ⊥;
      torn_too_long = ⊥;
    }) result

-- ---- opening

-- the format is that of what was loaded, which is one for it; if nothing was loaded, one for a history that has no checkpoint and no
-- event yet
abbrev pub IsFormatOf : ℕ → Option Loaded → Type 0
IsFormatOf format None = IsFormatFor format None []
IsFormatOf format (Some h) = (format ≡ h.format) × IsFormatFor h.format h.checkpoint h.events.items

-- the file has what was loaded of it, or nothing yet
abbrev pub LoadedKept : {D : Type 0} → Disk D → HistoryFile D → Option Loaded → Type 0
LoadedKept disk f None = (f.begun ≡ false) × ((start : Start) → HistoryKept disk f start [])
LoadedKept disk f (Some h) = (f.begun ≡ true) × HistoryKept disk f (loaded_start h) h.events.items

-- the same, if the device is honest
abbrev pub HasLoaded : {D : Type 0} → Disk D → HistoryFile D → Option Loaded → Type 0
HasLoaded disk f loaded = IsTrue disk.is_honest → LoadedKept disk f loaded

-- a front of a file was loaded: it is empty, or the text of a legal history
abbrev pub LoadsFront : List ℕ → Option Loaded → Type 0
LoadsFront front None = front ≡ []
LoadsFront front (Some h) = IsWholeHistory (loaded_start h) front h.events.items

-- why a file isn't opened: for the first error of its whole lines, or since it is some other file. Nothing is said here of an error of the
-- journal: `HasOpenCause` has its cause.
abbrev pub ReportsOpenFault : OpenFault → List ℕ → Type 0
ReportsOpenFault (Journal e) file = ⊤
ReportsOpenFault (History f) file = ReportsLoadFault f (recovered file)
ReportsOpenFault Foreign file = IsForeign file

-- the file is never opened: it is some other one, or more would be dropped than a batch can have
abbrev pub IsNeverOpened : List ℕ → Type 0
IsNeverOpened file = IsForeign file ⊎ (most_batch < dropped_count file)

-- An error of the journal at opening has a cause: for `Failed` a read, for `NoSpace` a write, and for the others what `own` says of lengths.
pub record HasOpenCause (read write : Type 0) (own : Own) (e : OpenFault) : Type 0 where
  pub failed : e ≡ Journal Failed → read
  pub no_space : e ≡ Journal NoSpace → write
  pub full : e ≡ Journal FullFile → own.full
  pub too_long : e ≡ Journal TooLong → own.too_long
  pub torn_too_long : e ≡ Journal TornTooLong → own.torn_too_long

-- the file is judged unless a read fails, memory runs out, or the file is too long
abbrev pub JudgesUnless : {D : Type 0} → Disk D → D → OpenFault → Type 0
JudgesUnless disk d e =
    IsTrue disk.is_honest
    → HasOpenCause (disk.reads_fail d) ⊥ (only_full (most_file < length (disk.seen d))) e

-- The file is opened unless the disk fails, memory runs out, the file is too long, or too much would be dropped.
abbrev pub LoadsUnless : {D : Type 0} → Disk D → D → D → OpenFault → Type 0
LoadsUnless disk old new e =
    let fault = disk.faults old < disk.faults new in
    IsTrue disk.is_honest → HasOpenCause (disk.reads_fail old ⊎ fault) fault (record {
      full = most_file < length (disk.seen old);
      too_long = ⊥;
      torn_too_long = most_batch < dropped_count (disk.seen old);
    }) e

-- the error is of a file that was judged, and not of the journal
abbrev pub IsOfFile : OpenFault → Type 0
IsOfFile (Journal e) = ⊥
IsOfFile (History f) = ⊤
IsOfFile Foreign = ⊤

-- A run can go on in this file from what was loaded of it, as after `open_history`.
pub record CanGoOnFrom {D : Type 0} (disk : Disk D) (f : HistoryFile D) (loaded : Option Loaded) : Type 0 where
  -- a desk can go on from what was loaded
  pub resumable : IfSome loaded IsResumable
  -- the file has exactly this history, or nothing yet, and more can be recorded after it
  pub kept : HasLoaded disk f loaded
  -- in the format of what was loaded, or in one for a new history
  pub format : IsFormatOf f.format loaded

-- The file of this device was opened, to be synced in this mode.
pub record OpensAs {D : Type 0} (disk : Disk D) (device : D) (mode : SyncMode) (r : Opened D) : Type 0 where
  -- a desk can go on from what was loaded, whatever the device is
  pub resumable : IfSome r.loaded IsResumable
  -- each waiting block of its checkpoint is that of its text
  pub blocks : IfSome r.loaded (λ h. IfSome h.checkpoint BlocksAreOfText)
  -- it is the history whose text the file's whole lines are
  pub loaded : IsTrue disk.is_honest → LoadsFront (recovered (disk.seen device)) r.loaded
  -- the file has exactly this history now, or nothing yet, and more can be recorded after it
  pub kept : IsSettled disk device → HasLoaded disk r.file r.loaded
  -- in the format of what was loaded, or in one for a new history
  pub format : IsFormatOf r.file.format r.loaded
  -- it is synced as was asked for
  pub sync : r.file.journal.sync ≡ mode
  -- the bytes were counted that come after the whole lines, and are dropped
  pub dropped : IsTrue disk.is_honest → r.found.dropped ≡ dropped_count (disk.seen device)
  -- it is no other file, and no more was dropped than a batch can have
  pub may_open : IsTrue disk.is_honest → IsNeverOpened (disk.seen device) → ⊥
  -- a crash at any moment of the call leaves what it might have left before, or the same lines
  pub any_moment : IsSettled disk device → LeavesSameLines disk device r.file.journal.device

-- The file of this device wasn't opened, for this reason; `left` is the device that is handed back.
pub record FailsToOpen {D : Type 0} (disk : Disk D) (device left : D) (e : OpenFault) : Type 0 where
  -- the error is the first one of the file's lines, or that it is some other file
  pub reported : IsTrue disk.is_honest → ReportsOpenFault e (disk.seen device)
  -- an error of the journal has a cause
  pub cause : LoadsUnless disk device left e
  -- a file that was judged is as it was
  pub unchanged : IsOfFile e → left ≡ device
  -- so is another file, and one of which too much would be dropped
  pub refused : IsTrue disk.is_honest → IsNeverOpened (disk.seen device) → left ≡ device
  -- a crash at any moment of the call leaves what it might have left before, or the same lines
  pub any_moment : IsSettled disk device → LeavesSameLines disk device left
  -- reads return the same lines
  pub same_lines : ShowsSameLines disk device left

-- ---- laws

-- the text of the start can be read again: its format is one of histories that begin so, and no line of it is too long
pub record StartCanBeRead (start : Start) : Type 0 where
  pub format_fits : FormatFits start.format start.checkpoint
  pub fits : StartFits start
  pub short : AreShortLines (start_text start)

-- the start can be read again, the history's events are in short lines, and so is each of these; with them it is legal
pub record MayGoOn (start : Start) (history events : List Event) : Type 0 where
  pub begins : StartCanBeRead start
  pub old : AreEvents start.format (first_state start) history
  pub new : AreEvents start.format (state_after_start start history) events
  pub legal : IsLegalFrom (first_state start) (history ++ events)

-- What a crash leaves with `Full` and `Sector` is loaded again as the history from before, or as that with all events; of a file with
-- no batch yet, as nothing. It begins where reading the lines of the start begins: at the same state, and with no table after a checkpoint.
abbrev pub AllOrNoneIsResumed : Type 0
AllOrNoneIsResumed =
    (begun : Bool) (start : Start) (history events : List Event) (file : List ℕ)
    → HasAllEventsOrNone begun start history events file → MayGoOn start history events
    → (IsWholeHistory (read_back start) (recovered file) history
    ⊎ IsWholeHistory (read_back start) (recovered file) (history ++ events))
    ⊎ ((begun ≡ false) × (recovered file ≡ []))

-- With `Append`, on a device that fills with zeros, it is loaded again as the history with some first events of the batch.
abbrev pub FirstAreResumed : Type 0
FirstAreResumed =
    (start : Start) (history events : List Event) (file : List ℕ)
    → HasFirst start history events file → MayGoOn start history events
    → (count : ℕ) × IsWholeHistory (read_back start) (recovered file) (history ++ take count events)

-- A file with just the lines before the events, of a table or of a checkpoint, is loaded again as a history that begins so, with no events,
-- and nothing of it is dropped.
abbrev pub StartIsResumed : Type 0
StartIsResumed =
    (start : Start) (file : List ℕ) → StartCanBeRead start → file ≡ start_text start
    → IsWholeHistory (read_back start) (recovered file) [] × (dropped_count file ≡ 0)

-- What a crash or an error leaves while a file is opened isn't some other file, if that one wasn't.
abbrev pub OwnStaysOwn : Type 0
OwnStaysOwn = (file other : List ℕ) → HasSameLines file other → (IsForeign file → ⊥) → IsForeign other → ⊥
