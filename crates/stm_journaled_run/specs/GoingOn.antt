-- How far a run is that keeps its history, and how it goes on from there.
use Rattle.std.specs.Prelude.{◌≡◌, ℕ, Bool, IsTrue, List, [], ◌∷◌, ◌++◌, length, Option, IfSome, MatchBool, string_bytes}
use Rattle.stm_journal.specs.Disk.{Disk, LeavesOnly}
use Rattle.stm_history_file.specs.declared.recording.HistoryFile.{HistoryFile}
use Rattle.stm_lines.specs.LineClass.{line_class}
use Rattle.stm_lines.specs.Lines.{lines_of}
use Rattle.stm_run.specs.declared.console.Console.{Console}
use Rattle.stm_run.specs.ConsoleState.{events_of}
use Rattle.stm_run.specs.LineCheckpoints.{Turn, turn_of, made_turn, ForTurns}
use Rattle.stm_journaled_run.specs.declared.fault.DurableFault.{DurableFault}
use Rattle.stm_journaled_run.specs.declared.session.DurableSession.{DurableSession}
use Rattle.stm_journaled_run.specs.DurableRun.{KeepsConsole, RefusalCause, CoversAnswers}
use Rattle.stm_journaled_run.specs.Committing.{IsAfterLines, HasCome, HasComeToEnd, HasFinished, LeavesRun, WholeLinesAnswered, FailsAfter, FailsOver}
use Rattle.stm_journaled_run.specs.NewEvents.{MayBeginRun}

-- what a run has between two lines: its file, its console, the answers that are held, how many events the file has, and what was
-- written, if that is known
pub record DurableState (D : Type 0) : Type 0 where
  pub file : HistoryFile D
  pub console : Console
  pub held : List ℕ
  pub recorded : ℕ
  pub written : Option (List ℕ)

-- by its file, its session, and what its writer contains
abbrev pub run_at : {D : Type 0} → HistoryFile D → DurableSession → Option (List ℕ) → DurableState D
run_at file session written =
    record { file = file; console = session.console; held = string_bytes session.held; recorded = session.recorded; written = written }

-- ---- from line to line
-- the run began as `first` when `old` was written, and has taken these lines since
abbrev pub HasTakenLines :
    {D : Type 0} → (disk : Disk D) → ℕ → Console → List (Turn (RefusalCause disk)) → Option (List ℕ) → DurableState D → Type 0
HasTakenLines disk every first lines old r =
    IsAfterLines (KeepsConsole disk r.file) every first lines old r.written r.console r.held r.recorded

-- the run has taken some lines, with a checkpoint at `every` events
abbrev pub IsBetweenLines : {D : Type 0} → Disk D → ℕ → DurableState D → Type 0
IsBetweenLines disk every r =
    (first : Console) × (lines : List (Turn (RefusalCause disk))) × (old : Option (List ℕ)) × HasTakenLines disk every first lines old r

-- whatever lines it has taken, they are the same afterwards
abbrev pub StaysAfterLines : {D : Type 0} → Disk D → DurableState D → DurableState D → Type 0
StaysAfterLines disk earlier later =
    (every : ℕ) (first : Console) (lines : List (Turn (RefusalCause disk))) (old : Option (List ℕ))
    → HasTakenLines disk every first lines old earlier → HasTakenLines disk every first lines old later

-- whatever lines it has taken, it fails after them
abbrev pub FailsAfterLines : {D : Type 0} → Disk D → DurableState D → HistoryFile D → Option (List ℕ) → DurableFault → Type 0
FailsAfterLines disk earlier file written e =
    (every : ℕ) (first : Console) (lines : List (Turn (RefusalCause disk))) (old : Option (List ℕ))
    → HasTakenLines disk every first lines old earlier → FailsAfter disk earlier.file file every first lines old written e

-- Whatever lines it has taken, a crash at any moment from then on leaves a history of the first of them.
abbrev pub LinesLeave : {D : Type 0} → Disk D → DurableState D → HistoryFile D → Type 0
LinesLeave disk earlier file =
    IsTrue disk.is_honest → (every : ℕ) (first : Console) (lines : List (Turn (RefusalCause disk))) (old : Option (List ℕ))
    → HasTakenLines disk every first lines old earlier
    → LeavesOnly disk earlier.file.journal.device file.journal.device
    (CoversAnswers earlier.file.journal.sync disk.fills_with_zeros every first lines [])

-- ---- one line more
-- The run takes this line, or any that is judged as it is, after the lines before it; its checkpoint may be refused.
abbrev pub AnswersLine : {D : Type 0} → Disk D → ℕ → List ℕ → DurableState D → DurableState D → Type 0
AnswersLine disk every line earlier later =
    (first : Console) (before : List (Turn (RefusalCause disk))) (old : Option (List ℕ)) (judged : List ℕ)
    → line_class line ≡ line_class judged → HasTakenLines disk every first before old earlier
    → (refused : Option (RefusalCause disk)) × HasTakenLines disk every first (before ++ turn_of judged refused ∷ []) old later

-- the run fails at this line
abbrev pub FailsAtLine : {D : Type 0} → Disk D → ℕ → List ℕ → DurableState D → HistoryFile D → Option (List ℕ) → DurableFault → Type 0
FailsAtLine disk every line earlier file written e =
    (first : Console) (before : List (Turn (RefusalCause disk))) (old : Option (List ℕ)) (judged : List ℕ)
    → line_class line ≡ line_class judged → HasTakenLines disk every first before old earlier
    → FailsAfter disk earlier.file file every first (before ++ made_turn judged ∷ []) old written e

-- A crash at any moment meanwhile leaves a history of the first of these lines.
abbrev pub LineLeaves : {D : Type 0} → Disk D → ℕ → List ℕ → DurableState D → HistoryFile D → Type 0
LineLeaves disk every line earlier file =
    IsTrue disk.is_honest → (first : Console) (before : List (Turn (RefusalCause disk))) (old : Option (List ℕ)) (judged : List ℕ)
    → line_class line ≡ line_class judged → HasTakenLines disk every first before old earlier
    → LeavesOnly disk earlier.file.journal.device file.journal.device
    (CoversAnswers earlier.file.journal.sync disk.fills_with_zeros every first (before ++ made_turn judged ∷ []) [])

-- ---- over an input
-- the run began as `first` when `old` was written, and has taken whole lines of this input, of which `rest` is still to be read
abbrev pub HasComeTo :
    {D : Type 0} → Disk D → ℕ → Console → Option (List ℕ) → Option (List ℕ) → Option (List ℕ) → DurableState D → Type 0
HasComeTo disk every first input rest old r =
    HasCome (RefusalCause disk) (KeepsConsole disk r.file) every first input rest old r.written r.console r.held r.recorded

-- the run is under way in some input
abbrev pub IsUnderWay : {D : Type 0} → Disk D → ℕ → Option (List ℕ) → DurableState D → Type 0
IsUnderWay disk every rest r = (first : Console) × (input old : Option (List ℕ)) × HasComeTo disk every first input rest old r

-- whatever input it is in, it takes the next line, and more may follow; or if not, it has come to the end
abbrev pub AnswersNext : {D : Type 0} → Disk D → ℕ → Option (List ℕ) → Option (List ℕ) → DurableState D → DurableState D → Bool → Type 0
AnswersNext disk every rest rest' earlier later more =
    (first : Console) (input old : Option (List ℕ)) → HasComeTo disk every first input rest old earlier
    → MatchBool more (HasComeTo disk every first input rest' old later)
    (HasComeToEnd (RefusalCause disk) (KeepsConsole disk later.file) every first input old later.written later.console later.held later.recorded)

-- the run fails in its input
abbrev pub FailsUnderWay :
    {D : Type 0} → Disk D → ℕ → Option (List ℕ) → DurableState D → HistoryFile D → Option (List ℕ) → DurableFault → Type 0
FailsUnderWay disk every rest earlier file written e =
    (first : Console) (input old : Option (List ℕ)) → HasComeTo disk every first input rest old earlier
    → FailsOver disk earlier.file file every first input old written e

-- the run has written the answers to all lines that were whole in what was taken, and this is left
abbrev pub WritesWhole : {D : Type 0} → Disk D → ℕ → Option (List ℕ) → DurableState D → Option (List ℕ) → Option (List ℕ) → Type 0
WritesWhole disk every rest earlier left written =
    (first : Console) (input old : Option (List ℕ)) → HasComeTo disk every first input rest old earlier
    → WholeLinesAnswered (RefusalCause disk) every first input left old written

-- A crash at any moment meanwhile leaves a history of the first lines of its input.
abbrev pub NextLeaves : {D : Type 0} → Disk D → ℕ → Option (List ℕ) → DurableState D → HistoryFile D → Type 0
NextLeaves disk every rest earlier file =
    IsTrue disk.is_honest → (first : Console) (input old : Option (List ℕ)) → HasComeTo disk every first input rest old earlier
    → LeavesOnly disk earlier.file.journal.device file.journal.device
    (LeavesRun (RefusalCause disk) earlier.file.journal.sync disk.fills_with_zeros every first input)

-- ---- a whole input
-- nothing is held, and the file has exactly the history of the session's console
pub record IsFresh {D : Type 0} (disk : Disk D) (file : HistoryFile D) (session : DurableSession) : Type 0 where
  pub may_begin : MayBeginRun session.console
  pub held : string_bytes session.held ≡ []
  pub recorded : session.recorded ≡ length (events_of session.console)
  pub tries : session.tries_from ≡ 0
  pub kept : KeepsConsole disk file session.console

-- over an input, if it is known, it has answered all lines, and the file has exactly their history
abbrev pub FinishesOver :
    {D : Type 0} → Disk D → HistoryFile D → ℕ → Console → Option (List ℕ) → Option (List ℕ) → Option (List ℕ) → Type 0
FinishesOver disk f every s input old new =
    IfSome input (λ bytes. ForTurns (RefusalCause disk) (lines_of bytes) (λ turns. HasFinished (KeepsConsole disk f) every s turns old new))

-- A crash at any moment meanwhile leaves a history of the first lines of the input.
abbrev pub InputLeaves : {D : Type 0} → Disk D → HistoryFile D → HistoryFile D → ℕ → Console → Option (List ℕ) → Type 0
InputLeaves disk file file' every s input =
    IsTrue disk.is_honest
    → LeavesOnly disk file.journal.device file'.journal.device
    (LeavesRun (RefusalCause disk) file.journal.sync disk.fills_with_zeros every s input)
