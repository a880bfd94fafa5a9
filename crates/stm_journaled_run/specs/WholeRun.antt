-- A whole run whose history is kept in a file: what it has written when it ends, what the file has then, and what a crash leaves.
use Rattle.std.specs.Prelude.{◌≡◌, ℕ, IsTrue, List, [], ◌++◌, Option, Some, IfSome, Result, Ok, Err}
use Rattle.std.specs.Io.KnownBytes.{Appends}
use Rattle.stm_history.specs.declared.loading.Loaded.{Loaded}
use Rattle.stm_lines.specs.WrittenFronts.{WritesFront}
use Rattle.stm_journal.specs.declared.sync_mode.SyncMode.{SyncMode}
use Rattle.stm_journal.specs.Disk.{Disk, LeavesOnly}
use Rattle.stm_history_file.specs.declared.recording.HistoryFile.{HistoryFile}
use Rattle.stm_lines.specs.Lines.{lines_of, whole_lines_of}
use Rattle.stm_lines.specs.declared.run_fault.RunFault.TheVariants.{Read}
use Rattle.stm_options.specs.declared.options.Options.{Options}
use Rattle.stm_run.specs.declared.console.Console.{Console}
use Rattle.stm_run.specs.LineCheckpoints.{Turn, states_after, answers_by, ForTurns}
use Rattle.stm_journaled_run.specs.declared.fault.DurableFault.{DurableFault}
use Rattle.stm_journaled_run.specs.declared.fault.DurableFault.TheVariants.{Run}
use Rattle.stm_journaled_run.specs.DurableRun.{resumed_console, KeepsConsole, HasCommitted, CoversAnswers, IsNoJournalFault, RefusalCause, RunsUnlessDisk}

-- A run with these options, which goes on from what was loaded: the bytes that its reader has before it, and what is left of them
-- after it; and those that its writer has before it, and after it. None if they aren't known.
pub record RunView : Type 0 where
  pub options : Options
  pub loaded : Option Loaded
  pub input : Option (List ℕ)
  pub left : Option (List ℕ)
  pub before : Option (List ℕ)
  pub after : Option (List ℕ)

abbrev pub run_view : Options → Option Loaded → Option (List ℕ) → Option (List ℕ) → Option (List ℕ) → Option (List ℕ) → RunView
run_view options loaded input left before after =
    record { options = options; loaded = loaded; input = input; left = left; before = before; after = after }

-- the console before the first line of the run
abbrev pub first_console : RunView → Console
first_console run = resumed_console run.options.max_events run.loaded

-- the answers to these lines, by the run
abbrev pub run_answers : {Cause : Type 0} → RunView → List (Turn Cause) → List ℕ
run_answers run turns = answers_by run.options.checkpoint_every (first_console run) turns

-- the console after them
abbrev pub console_after : {Cause : Type 0} → RunView → List (Turn Cause) → Console
console_after run turns = states_after run.options.checkpoint_every (first_console run) turns

-- P holds of the lines of the input, if that is known. Some of their checkpoints may have been refused, each for a cause.
abbrev pub OverInput : {D : Type 0} → (disk : Disk D) → RunView → (List (Turn (RefusalCause disk)) → Type 0) → Type 0
OverInput disk run P = IfSome run.input (λ input. ForTurns (RefusalCause disk) (lines_of input) P)

-- ---- what is written
-- the answers to all lines were written, and the file has exactly the history of all lines
abbrev pub AnswersAllLines : {D : Type 0} → Disk D → HistoryFile D → RunView → Type 0
AnswersAllLines disk f run = OverInput disk run (λ turns.
    Appends run.before run.after (run_answers run turns)
    × KeepsConsole disk f (console_after run turns))

-- the answers to the lines that were whole in what was taken of the input were written
abbrev pub AnswersWholeLines : {D : Type 0} → Disk D → RunView → Type 0
AnswersWholeLines disk run =
    IfSome run.input (λ input. (taken rest : List ℕ) × (input ≡ taken ++ rest) × (run.left ≡ Some rest)
    × ForTurns (RefusalCause disk) (whole_lines_of taken) (λ turns.
    Appends run.before run.after (run_answers run turns)))

-- a front of the answers was written
abbrev pub AnswersInPart : {D : Type 0} → Disk D → RunView → Type 0
AnswersInPart disk run =
    OverInput disk run (λ turns. WritesFront run.before run.after (run_answers run turns))

-- The run has failed.
pub record RunFails {D : Type 0} (disk : Disk D) (run : RunView) (e : DurableFault) : Type 0 where
  -- a front of the answers was written
  pub part : AnswersInPart disk run
  -- after a read fault, the answers to all lines that were whole before it
  pub whole : e ≡ Run Read → AnswersWholeLines disk run
  -- on a disk on which no call fails, it isn't for an error of the disk
  pub cause : RunsUnlessDisk disk e

-- ---- what the file has
-- the file has exactly the history of the lines whose answers were written
abbrev pub KeepsAnswered : {D : Type 0} → Disk D → HistoryFile D → RunView → Type 0
KeepsAnswered disk f run = OverInput disk run (λ turns. (written : List ℕ) × Appends run.before run.after written
    × HasCommitted disk f run.options.checkpoint_every (first_console run) turns written)

-- this file covers what was written of a run whose lines are these turns
abbrev pub CoversTurns : {D : Type 0} {Cause : Type 0} → Disk D → SyncMode → RunView → List (Turn Cause) → List ℕ → List ℕ → Type 0
CoversTurns disk sync run turns written file =
    CoversAnswers sync disk.fills_with_zeros run.options.checkpoint_every (first_console run) turns written file

-- so it does for some way in which checkpoints of the input's lines were refused
abbrev pub CoversSomeTurns : {D : Type 0} → Disk D → SyncMode → RunView → List ℕ → List ℕ → List ℕ → Type 0
CoversSomeTurns disk sync run input written file =
    ForTurns (RefusalCause disk) (lines_of input) (λ turns. CoversTurns disk sync run turns written file)

-- a crash now leaves a file that covers what was written
abbrev pub CoversWritten : {D : Type 0} → Disk D → HistoryFile D → HistoryFile D → RunView → Type 0
CoversWritten disk old new run =
    IsTrue disk.is_honest → OverInput disk run (λ turns. (written : List ℕ) × Appends run.before run.after written
    × ((c : List ℕ) → disk.may_leave new.journal.device c → CoversTurns disk old.journal.sync run turns written c))

-- a crash at any moment of the run leaves the history from before it, and a front of the events of its lines
abbrev pub RunLeaves : {D : Type 0} → Disk D → HistoryFile D → HistoryFile D → RunView → Type 0
RunLeaves disk old new run =
    IsTrue disk.is_honest → IfSome run.input (λ input.
    LeavesOnly disk old.journal.device new.journal.device (CoversSomeTurns disk old.journal.sync run input []))

-- The file after the run, whatever its result.
pub record KeepsRun {D : Type 0} (disk : Disk D) (old new : HistoryFile D) (run : RunView) (result : Result (Unit {0}) DurableFault) : Type 0 where
  -- unless the journal failed, it has exactly the history of the lines whose answers were written
  pub committed : IsTrue disk.is_honest → IsNoJournalFault result → KeepsAnswered disk new run
  -- a crash now leaves a file that covers what was written
  pub covered : CoversWritten disk old new run
  -- one at any moment of the run leaves the history from before it, and a front of the events of its lines
  pub any_moment : RunLeaves disk old new run
  -- it is synced as before
  pub sync : new.journal.sync ≡ old.journal.sync

-- ---- how the run ends
-- what was written, by the result: the answers to all lines, or after an error a front of them
abbrev pub WritesRunOn : {D : Type 0} → Disk D → HistoryFile D → RunView → Result (Unit {0}) DurableFault → Type 0
WritesRunOn disk f run (Ok done) = AnswersAllLines disk f run
WritesRunOn disk f run (Err e) = RunFails disk run e

-- The run has ended with this result.
pub record EndsRun {D : Type 0} (disk : Disk D) (old new : HistoryFile D) (run : RunView) (result : Result (Unit {0}) DurableFault) : Type 0 where
  -- what was written, and that the file has all of it, if nothing failed
  pub written : WritesRunOn disk new run result
  -- what the file has, and what a crash leaves of it, whatever the result is
  pub file : KeepsRun disk old new run result
