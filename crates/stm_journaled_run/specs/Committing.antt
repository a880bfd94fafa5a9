-- What a run keeps between two lines, and how it goes on.
use Rattle.std.specs.Prelude.{◌≡◌, ◌≢◌, ◌⊎◌, ⊤, ℕ, Bool, true, false, IsTrue, List, [], ◌++◌, length, Option, Some, IfSome, MatchBool, codes}
use Rattle.std.specs.Io.KnownBytes.{Appends, Consumes}
use Rattle.stm_terms.specs.Texts.{IsPrefixOf}
use Rattle.stm_events.specs.declared.event.Event.{Event}
use Rattle.stm_history_text.specs.Starts.{Start}
use Rattle.stm_journal.specs.declared.sync_mode.SyncMode.{SyncMode}
use Rattle.stm_journal.specs.Disk.{Disk, LeavesOnly}
use Rattle.stm_history_file.specs.Durable.{HistoryKept, LeavesHistory, MayBecome}
use Rattle.stm_history_file.specs.declared.recording.HistoryFile.{HistoryFile}
use Rattle.stm_commands.specs.Checkpointing.{are_tickets_full, checkpoint_line}
use Rattle.stm_commands.specs.Refusals.{refused}
use Rattle.stm_lines.specs.Lines.{lines_of, whole_lines_of}
use Rattle.stm_lines.specs.declared.run_fault.RunFault.TheVariants.{Read}
use Rattle.stm_run.specs.declared.console.Console.{Console}
use Rattle.stm_run.specs.declared.reply.Reply.{Reply}
use Rattle.stm_run.specs.declared.reply.Reply.TheVariants as reply
use Rattle.stm_run.specs.Abstraction.{history_of, later_events_of}
use Rattle.stm_run.specs.ConsoleState.{present_desk, table_of, events_of, with_checkpoint}
use Rattle.stm_run.specs.Fitting.{VariablesFit}
use Rattle.stm_run.specs.Growing.{Grows}
use Rattle.stm_run.specs.LineCheckpoints.{Turn, asked_checkpoint_step, turn_lines, states_after, answers_by, ForTurns}
use Rattle.stm_journaled_run.specs.declared.fault.DurableFault.{DurableFault}
use Rattle.stm_journaled_run.specs.declared.fault.DurableFault.TheVariants.{Run, Journal}
use Rattle.stm_journaled_run.specs.declared.session.Taken.{Taken}
use Rattle.stm_journaled_run.specs.declared.session.Taken.TheVariants.{Held, Begun, Unmade, Streamed}
use Rattle.stm_journaled_run.specs.declared.session.Tried.{Tried}
use Rattle.stm_journaled_run.specs.declared.session.Tried.TheVariants.{Made, TicketsFull, RefusedByFile}
use Rattle.stm_journaled_run.specs.DurableRun.{KeepsConsole, KeepsConsoles, RefusalCause, LeavesBetween, CoversAnswers}
use Rattle.stm_journaled_run.specs.NewEvents.{MayBeginRun}

-- What a crash may leave while events are recorded in batches, after a history: that and the batches before, and of one batch what
-- the sync mode says.
pub record LeavesBatches
    (sync : SyncMode) (zeros : Bool) (start : Start) (history events : List Event) (file : List ℕ) : Type 0 where
  pub recorded : List Event
  pub batch : List Event
  pub unrecorded : List Event
  pub parts : events ≡ recorded ++ (batch ++ unrecorded)
  pub left : LeavesHistory sync zeros true start (history ++ recorded) batch file

-- The file, of which K says whose history it has, has that of a console from which the present one grew with no checkpoint;
-- `recorded` is the number of its events.
pub record MayCommit (K : Console → Type 0) (console : Console) (recorded : ℕ) : Type 0 where
  pub committed : Console
  pub may_begin : MayBeginRun committed
  pub grows : Grows committed console
  pub variables : VariablesFit (table_of console)
  pub count : recorded ≡ length (events_of committed)
  pub kept : K committed

-- A checkpoint was made of a console that grew from the one whose history the file has.
pub record MayBeginAnew (K : Console → Type 0) (console : Console) : Type 0 where
  pub committed : Console
  pub before : Console
  pub may_begin : MayBeginRun committed
  pub grows : Grows committed before
  pub variables : VariablesFit (table_of before)
  pub made : console ≡ with_checkpoint before
  pub kept : K committed

-- After these lines of a run that began as s: the answers to some of them were written, and the file has their history; those to the
-- others are held. A checkpoint may be the last of what happened.
pub record IsBehind
    {Cause : Type 0} (K : Console → Type 0) (every : ℕ) (s : Console) (lines : List (Turn Cause)) (old new : Option (List ℕ)) (console : Console)
    (held : List ℕ) (recorded : ℕ) : Type 0 where
  pub answered : List (Turn Cause)
  pub awaiting : List (Turn Cause)
  pub parts : lines ≡ answered ++ awaiting
  pub may_begin : MayBeginRun (states_after every s answered)
  pub appended : Appends old new (answers_by every s answered)
  pub since : console ≡ states_after every (states_after every s answered) awaiting
  pub held_is : held ≡ answers_by every (states_after every s answered) awaiting
  pub count : recorded ≡ length (events_of (states_after every s answered))
  pub kept : K (states_after every s answered)

-- The file has the history of some of these lines, the answers to the others are held, and no checkpoint was made since.
pub record IsAfterLines
    {Cause : Type 0} (K : Console → Type 0) (every : ℕ) (s : Console) (lines : List (Turn Cause)) (old new : Option (List ℕ)) (console : Console)
    (held : List ℕ) (recorded : ℕ) : Type 0 where
  pub behind : IsBehind K every s lines old new console held recorded
  pub grows : Grows (states_after every s behind.answered) console
  pub variables : VariablesFit (table_of console)

-- the bytes that were taken are these lines, whatever follows
pub record AreLinesOf (lines : List (List ℕ)) (taken : List ℕ) : Type 0 where
  pub all : (more : List ℕ) → lines_of (taken ++ more) ≡ lines ++ lines_of more
  pub whole : (more : List ℕ) → whole_lines_of (taken ++ more) ≡ lines ++ whole_lines_of more

-- a run that began as s has taken some whole lines of its input
pub record HasCome
    (Cause : Type 0) (K : Console → Type 0) (every : ℕ) (s : Console) (input rest old new : Option (List ℕ)) (console : Console) (held : List ℕ)
    (recorded : ℕ) : Type 0 where
  pub taken : List ℕ
  pub lines : List (Turn Cause)
  pub consumed : Consumes input rest taken
  pub lines_are : AreLinesOf (turn_lines lines) taken
  pub after : IsAfterLines K every s lines old new console held recorded

-- a run that began as s has taken all lines of its input
pub record HasComeToEnd
    (Cause : Type 0) (K : Console → Type 0) (every : ℕ) (s : Console) (input old new : Option (List ℕ)) (console : Console) (held : List ℕ)
    (recorded : ℕ) : Type 0 where
  pub lines : List (Turn Cause)
  pub lines_are : IfSome input (λ bytes. lines_of bytes ≡ turn_lines lines)
  pub after : IsAfterLines K every s lines old new console held recorded

-- all lines were answered, and the file has their history
pub record HasFinished
    {Cause : Type 0} (K : Console → Type 0) (every : ℕ) (s : Console) (lines : List (Turn Cause)) (old new : Option (List ℕ)) : Type 0 where
  pub appended : Appends old new (answers_by every s lines)
  pub kept : K (states_after every s lines)

-- what is still to be written of a line's answer
abbrev pub streamed_text : Reply → Console → List ℕ
streamed_text reply.Text s = []
streamed_text reply.History s = history_of s
streamed_text (reply.Events n) s = later_events_of s n
streamed_text reply.Checkpoint s = []

-- ---- faults

-- The texts that a commit writes were written in part, and the file is at rest (`kept`); or nothing was, and the journal failed.
abbrev pub HasNotWritten : DurableFault → Option (List ℕ) → Option (List ℕ) → List ℕ → Type 0 → Type 0
HasNotWritten (Run f) old new text kept =
    (f ≢ Read) × (front : List ℕ) × IsPrefixOf front text × Appends old new front × kept
HasNotWritten (Journal e) old new text kept = Appends old new []

-- the writer, the reader or memory failed: the file is at rest
pub record HasEndedAtRest
    {Cause : Type 0} (K : Console → Type 0) (every : ℕ) (s : Console) (lines : List (Turn Cause)) (old new : Option (List ℕ)) : Type 0 where
  pub answered : List (Turn Cause)
  pub others : List (Turn Cause)
  pub parts : lines ≡ answered ++ others
  pub written : List ℕ
  pub front : IsPrefixOf written (answers_by every s answered)
  pub appended : Appends old new written
  pub kept : K (states_after every s answered)

-- the journal failed: what a crash may leave covers what was written
pub record HasNotRecorded
    {Cause : Type 0} (honest : Bool) (sync : SyncMode) (zeros : Bool) (may_leave : List ℕ → Type 0) (every : ℕ) (s : Console) (lines : List (Turn Cause))
    (old new : Option (List ℕ)) : Type 0 where
  pub answered : List (Turn Cause)
  pub others : List (Turn Cause)
  pub parts : lines ≡ answered ++ others
  pub appended : Appends old new (answers_by every s answered)
  pub covered : IsTrue honest → (c : List ℕ) → may_leave c → CoversAnswers sync zeros every s lines (answers_by every s answered) c

-- how a run stands after a fault
abbrev pub HasFailed :
    {Cause : Type 0} → Bool → SyncMode → Bool → (List ℕ → Type 0) → (Console → Type 0) → ℕ → Console → List (Turn Cause) → Option (List ℕ)
    → Option (List ℕ) → DurableFault → Type 0
HasFailed honest sync zeros may_leave K every s lines old new (Run f) = HasEndedAtRest K every s lines old new
HasFailed honest sync zeros may_leave K every s lines old new (Journal e) =
    HasNotRecorded honest sync zeros may_leave every s lines old new

-- what a crash at any moment of a run leaves, if the input is known
abbrev pub LeavesRun : Type 0 → SyncMode → Bool → ℕ → Console → Option (List ℕ) → List ℕ → Type 0
LeavesRun Cause sync zeros every s input c =
    IfSome input (λ bytes. ForTurns Cause (lines_of bytes) (λ turns. CoversAnswers sync zeros every s turns [] c))

-- the answers to the lines that were whole in what was taken were written
abbrev pub WholeLinesAnswered : Type 0 → ℕ → Console → Option (List ℕ) → Option (List ℕ) → Option (List ℕ) → Option (List ℕ) → Type 0
WholeLinesAnswered Cause every s input left old new =
    IfSome input (λ bytes. (taken rest : List ℕ) × (bytes ≡ taken ++ rest) × (left ≡ Some rest)
    × ForTurns Cause (whole_lines_of taken) (λ turns. Appends old new (answers_by every s turns)))

-- ---- on a disk

-- A crash at any moment, while events are recorded as one batch, leaves each history that the file had, with what the mode says of
-- these.
abbrev pub LeavesBatchOf : {D : Type 0} → Disk D → HistoryFile D → HistoryFile D → Start → List Event → Type 0
LeavesBatchOf disk old new start events =
    IsTrue disk.is_honest → (history : List Event) → HistoryKept disk old start history
    → LeavesOnly disk old.journal.device new.journal.device (MayBecome disk old start history events)

-- A crash at any moment, while events are recorded in batches, leaves each history that the file had, with some of the batches, and of
-- one what the mode says.
abbrev pub LeavesBatchesOf : {D : Type 0} → Disk D → HistoryFile D → HistoryFile D → Start → List Event → Type 0
LeavesBatchesOf disk old new start events =
    IsTrue disk.is_honest → (history : List Event) → HistoryKept disk old start history
    → LeavesOnly disk old.journal.device new.journal.device
    (LeavesBatches old.journal.sync disk.fills_with_zeros start history events)

-- A crash at any moment of a commit leaves a file between the committed console and the present one.
abbrev pub CommitLeaves : {D : Type 0} → Disk D → HistoryFile D → HistoryFile D → Console → ℕ → Type 0
CommitLeaves disk old new console recorded =
    IsTrue disk.is_honest → (c : MayCommit (KeepsConsole disk old) console recorded)
    → LeavesOnly disk old.journal.device new.journal.device
    (LeavesBetween old.journal.sync disk.fills_with_zeros c.committed console)

-- A crash at any moment, while a new file takes the place of the old one, leaves what the file had, or the lines of the checkpoint.
abbrev pub BeginningLeaves : {D : Type 0} → Disk D → HistoryFile D → HistoryFile D → Console → Type 0
BeginningLeaves disk old new console =
    IsTrue disk.is_honest → (c : MayBeginAnew (KeepsConsole disk old) console)
    → LeavesOnly disk old.journal.device new.journal.device
    (λ f. LeavesBetween old.journal.sync disk.fills_with_zeros c.committed c.committed f
    ⊎ LeavesBetween old.journal.sync disk.fills_with_zeros c.committed console f)

-- If the file was replaced it has exactly the history of the console, as which a run may begin; if not, it has what it had, for a cause.
abbrev pub BeginsOrKeeps : {D : Type 0} → Disk D → HistoryFile D → HistoryFile D → Console → Bool → Type 0
BeginsOrKeeps disk old new console begun =
    MatchBool begun (KeepsConsole disk new console × MayBeginRun console) (KeepsConsoles disk old new × RefusalCause disk)

-- the answer to `checkpoint` if it can't be made
abbrev pub no_checkpoint_text : List ℕ
no_checkpoint_text = refused (codes "NoCheckpoint")

-- What a crash may leave while a checkpoint is tried: what the file had, or the checkpoint.
abbrev pub BeginningLeavesEither : {D : Type 0} → Disk D → HistoryFile D → HistoryFile D → Console → Type 0
BeginningLeavesEither disk old new console =
    IsTrue disk.is_honest → (c : MayBeginAnew (KeepsConsole disk old) (with_checkpoint console))
    → LeavesOnly disk old.journal.device new.journal.device
    (λ f. LeavesBetween old.journal.sync disk.fills_with_zeros c.committed c.committed f
    ⊎ LeavesBetween old.journal.sync disk.fills_with_zeros c.committed (asked_checkpoint_step console).0 f)

-- what is known of a checkpoint that was tried on an open desk
abbrev pub HasTriedCheckpoint : {D : Type 0} → Disk D → HistoryFile D → HistoryFile D → Console → Console → ℕ → ℕ → Tried → Type 0
HasTriedCheckpoint disk old new s t recorded recorded' (Made n) =
    (asked_checkpoint_step s ≡ (t, checkpoint_line n)) × (recorded' ≡ length (events_of t)) × KeepsConsole disk new t × MayBeginRun t
HasTriedCheckpoint disk old new s t recorded recorded' TicketsFull =
    (asked_checkpoint_step s ≡ (t, refused (codes "TicketsFull"))) × (t ≡ s) × (recorded' ≡ recorded) × KeepsConsoles disk old new
HasTriedCheckpoint disk old new s t recorded recorded' RefusedByFile =
    (are_tickets_full (present_desk s) ≡ false) × (t ≡ s) × (recorded' ≡ recorded) × KeepsConsoles disk old new × RefusalCause disk

-- What is known after a line, by how it was taken: `made` is what it does and writes, and `unmade` if its checkpoint can't be made.
abbrev pub HasTakenLine :
    {D : Type 0} → Disk D → HistoryFile D → HistoryFile D → Console × List ℕ → Console × List ℕ → Console → List ℕ → List ℕ → ℕ → ℕ
    → Taken → Type 0
HasTakenLine disk old new made unmade t held held' recorded recorded' Held =
    (t ≡ made.0) × (held' ≡ held ++ made.1) × (recorded' ≡ recorded) × KeepsConsoles disk old new
HasTakenLine disk old new made unmade t held held' recorded recorded' Begun =
    (t ≡ made.0) × (held' ≡ held ++ made.1) × (recorded' ≡ length (events_of t)) × KeepsConsole disk new t × MayBeginRun t
HasTakenLine disk old new made unmade t held held' recorded recorded' Unmade =
    (t ≡ unmade.0) × (held' ≡ held ++ unmade.1) × (recorded' ≡ recorded) × KeepsConsoles disk old new × RefusalCause disk
HasTakenLine disk old new made unmade t held held' recorded recorded' (Streamed r) =
    (t ≡ made.0) × (held' ++ streamed_text r t ≡ held ++ made.1) × (recorded' ≡ recorded) × KeepsConsoles disk old new

-- whether a line made a checkpoint
abbrev pub has_begun : Taken → Bool
has_begun Held = false
has_begun Begun = true
has_begun Unmade = false
has_begun (Streamed r) = false

-- After a line that wasn't taken: nothing was written, and if memory ran out the file is at rest, as before or with the checkpoint.
abbrev pub HasNotTaken : {D : Type 0} → Disk D → HistoryFile D → HistoryFile D → Console → DurableFault → Type 0
HasNotTaken disk old new made (Run f) = (f ≢ Read) × (KeepsConsoles disk old new ⊎ KeepsConsole disk new made)
HasNotTaken disk old new made (Journal e) = ⊤

-- a crash at any moment meanwhile leaves what the file had, or that with the checkpoint
abbrev pub TakingLeaves : {D : Type 0} → Disk D → HistoryFile D → HistoryFile D → Console → ℕ → Console → Type 0
TakingLeaves disk old new console recorded made =
    IsTrue disk.is_honest → (c : MayCommit (KeepsConsole disk old) console recorded)
    → LeavesOnly disk old.journal.device new.journal.device
    (λ f. LeavesBetween old.journal.sync disk.fills_with_zeros c.committed c.committed f
    ⊎ LeavesBetween old.journal.sync disk.fills_with_zeros c.committed made f)

-- how a run over this file stands after a fault
abbrev pub FailsAfter :
    {D : Type 0} → (disk : Disk D) → HistoryFile D → HistoryFile D → ℕ → Console → List (Turn (RefusalCause disk)) → Option (List ℕ)
    → Option (List ℕ) → DurableFault → Type 0
FailsAfter disk file file' every s lines old new e =
    HasFailed disk.is_honest file.journal.sync disk.fills_with_zeros (disk.may_leave file'.journal.device) (KeepsConsole disk file')
    every s lines old new e

-- how a run over this file and this input stands after a fault, if the input is known
abbrev pub FailsOver :
    {D : Type 0} → Disk D → HistoryFile D → HistoryFile D → ℕ → Console → Option (List ℕ) → Option (List ℕ) → Option (List ℕ)
    → DurableFault → Type 0
FailsOver disk file file' every s input old new e =
    IfSome input (λ bytes. ForTurns (RefusalCause disk) (lines_of bytes) (λ turns. FailsAfter disk file file' every s turns old new e))
