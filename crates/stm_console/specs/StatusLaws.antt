-- What each exit status says.
use Rattle.std.specs.Prelude.{◌≡◌, ◌≢◌, ◌⊎◌, ℕ, false, List, [], Option, IfSome, IsTrue, ⊤}
use Rattle.stm_history.specs.declared.loading.Loaded.{Loaded}
use Rattle.stm_journal.specs.declared.sync_mode.SyncMode.{SyncMode}
use Rattle.stm_journal.specs.Text.{recovered}
use Rattle.stm_history_file.specs.Durable.{LoadsFront}
use Rattle.stm_run.specs.Console.{console_text}
use Rattle.stm_run.specs.LineCheckpoints.{answers_by}
use Rattle.stm_journaled_run.specs.DurableRun.{resumed_console}
use Rattle.stm_storm.specs.StormText.{IsInvalidStorm, IsStormText}
use Rattle.stm_explore_script.specs.ExploreEnd.{WritesRight}
use Rattle.stm_explore_script.specs.ExploreResult.{IsInvalidExploration}
use Rattle.stm_options.specs.declared.explore_options.ExploreOptions.{ExploreOptions}
use Rattle.stm_options.specs.declared.options.Options.{Options}
use Rattle.stm_command_line.specs.CommandLine.{answers_of, asks_for_help, asks_for_version, has_mistake, request_of, version_line}
use Rattle.stm_command_line.specs.declared.command_line.Request.{Request}
use Rattle.stm_command_line.specs.declared.command_line.Request.TheVariants.{Run, RunOn, Storm, Explore, Check, CheckWhy}
use Rattle.stm_console.specs.Checking.{BeginsFindingText}
use Rattle.stm_console.specs.ExitStatus.{IsFailure}
use Rattle.stm_console.specs.Journal.{HasNoHistory}
use Rattle.stm_console.specs.Program.{Asked, Do, Help, Mistake, Several, Version, asked_by, OverLines, ProgramDoes, ReadsNothing, Streams, Writes, WritesA, WritesNothing, WritesPartOf}
use Rattle.stm_console.specs.declared.status.TheConstants.{DONE, NOT_RIGHT, REFUSED}

-- ---- what words ask for

-- What these words ask for, by what clap has to print of them.
pub record AskByAnswers (words : List (List ℕ)) : Type 0 where
  -- if that is nothing, for their request
  pub request : answers_of words ≡ [] → asked_by words ≡ Do (request_of words)
  -- if it is help, the version, or that they are wrong, for that
  pub help : IsTrue (asks_for_help words) → asked_by words ≡ Help
  pub version : IsTrue (asks_for_version words) → asked_by words ≡ Version
  pub mistake : IsTrue (has_mistake words) → asked_by words ≡ Mistake
  -- if it may be several things, for one of them
  pub several :
      answers_of words ≢ [] → asks_for_help words ≡ false → asks_for_version words ≡ false → has_mistake words ≡ false
      → asked_by words ≡ Several

-- so it is whatever the words are
abbrev pub WordsAskForThis : Type 0
WordsAskForThis = (words : List (List ℕ)) → AskByAnswers words

-- ---- the statuses

-- there is no other than 0, 1, 2, 3 and 4
abbrev pub StatusesAreFew : Type 0
StatusesAreFew = (asked : Asked) (s : Streams) (status : ℕ) → ProgramDoes asked s status
    → (status ≡ 0) ⊎ ((status ≡ 1) ⊎ ((status ≡ 2) ⊎ ((status ≡ 3) ⊎ (status ≡ 4))))

-- ---- the words are refused

-- nothing is read, and nothing written
abbrev pub RefusedDoNothing : Type 0
RefusedDoNothing = (asked : Asked) (s : Streams) → ProgramDoes asked s REFUSED → ReadsNothing s × WritesNothing s

-- words that clap takes aren't refused
abbrev pub RequestsAreTaken : Type 0
RequestsAreTaken = (request : Request) (s : Streams) → ProgramDoes (Do request) s REFUSED → ⊥

-- ---- something isn't right

-- it judges: a run on a file the history of the file, a check that of the reader, a storm that of its clients, and an exploration
-- all that its clients can do
abbrev pub Judges : Request → Type 0
Judges (Run options) = ⊥
Judges (RunOn options sync file) = ⊤
Judges (Storm options) = ⊤
Judges (Explore options) = ⊤
Judges Check = ⊤
Judges CheckWhy = ⊤

-- only such a request ends so
abbrev pub OnlyJudgesFindWrong : Type 0
OnlyJudgesFindWrong = (asked : Asked) (s : Streams) → ProgramDoes asked s NOT_RIGHT
    → (request : Request) × (asked ≡ Do request) × Judges request

-- a run on a file doesn't begin if the file has no history to go on from
abbrev pub WrongFilesDoNothing : Type 0
WrongFilesDoNothing = (options : Options) (sync : SyncMode) (file : List ℕ) (s : Streams)
    → ProgramDoes (Do (RunOn options sync file)) s NOT_RIGHT
    → ReadsNothing s × WritesNothing s × IfSome (s.files file) HasNoHistory

-- ---- success

-- the whole text of a run was written
abbrev pub DoneRunsAnswer : Type 0
DoneRunsAnswer = (options : Options) (s : Streams) → ProgramDoes (Do (Run options)) s DONE
    → IfSome s.input (λ input. Writes s (console_text options.max_events input))

-- the whole text of a run on a file was written, for the history that the file had
abbrev pub DoneFilesAnswer : Type 0
DoneFilesAnswer = (options : Options) (sync : SyncMode) (file : List ℕ) (s : Streams)
    → ProgramDoes (Do (RunOn options sync file)) s DONE
    → (loaded : Option Loaded) × IfSome (s.files file) (λ bytes. LoadsFront (recovered bytes) loaded)
    × IfSome s.input (λ input. OverLines input (λ turns.
    Writes s (answers_by options.checkpoint_every (resumed_console options.max_events loaded) turns)))

-- a storm's script is right, and a text of it was written
abbrev pub DoneStormsReport : Type 0
DoneStormsReport = (options : Options) (s : Streams) → ProgramDoes (Do (Storm options)) s DONE
    → IfSome s.input (λ input. WritesA s (IsStormText input))

-- nothing is wrong with any state that an exploration's clients can reach
abbrev pub DoneExplorationsAreRight : Type 0
DoneExplorationsAreRight = (options : ExploreOptions) (s : Streams) → ProgramDoes (Do (Explore options)) s DONE
    → IfSome s.input (λ input. WritesRight options.history options input s.before s.after)

-- the version's line was written
abbrev pub DoneVersionsAreWritten : Type 0
DoneVersionsAreWritten = (s : Streams) → ProgramDoes Version s DONE → Writes s version_line

-- ---- no success

-- a part of a run's text was written
abbrev pub OtherRunsWriteAPart : Type 0
OtherRunsWriteAPart = (options : Options) (s : Streams) (status : ℕ) → ProgramDoes (Do (Run options)) s status → status ≢ DONE
    → IfSome s.input (λ input. WritesPartOf s (console_text options.max_events input))

-- a part of the text of a run on a file was written, or nothing
abbrev pub OtherFilesWriteAPart : Type 0
OtherFilesWriteAPart = (options : Options) (sync : SyncMode) (file : List ℕ) (s : Streams) (status : ℕ)
    → ProgramDoes (Do (RunOn options sync file)) s status → status ≢ DONE
    → WritesNothing s
    ⊎ ((loaded : Option Loaded) × IfSome (s.files file) (λ bytes. LoadsFront (recovered bytes) loaded)
    × IfSome s.input (λ input. OverLines input (λ turns.
    WritesPartOf s (answers_by options.checkpoint_every (resumed_console options.max_events loaded) turns))))

-- a part of what a check prints of the bytes was written, if not all of it
abbrev pub OtherChecksWriteAPart : Type 0
OtherChecksWriteAPart = (s : Streams) (status : ℕ) → ProgramDoes (Do Check) s status → status ≢ DONE
    → IfSome s.input (λ bytes. WritesA s (BeginsFindingText bytes))

-- a part of the version's line was written
abbrev pub OtherVersionsWriteAPart : Type 0
OtherVersionsWriteAPart = (s : Streams) (status : ℕ) → ProgramDoes Version s status → status ≢ DONE → WritesPartOf s version_line

-- ---- invalid scripts

-- of an invalid script a storm fails, and nothing was written
abbrev pub InvalidStormsWriteNothing : Type 0
InvalidStormsWriteNothing = (options : Options) (s : Streams) (status : ℕ) → ProgramDoes (Do (Storm options)) s status
    → IfSome s.input (λ input. IsInvalidStorm input → IsFailure status × WritesNothing s)

-- and so does an exploration
abbrev pub InvalidExplorationsWriteNothing : Type 0
InvalidExplorationsWriteNothing = (options : ExploreOptions) (s : Streams) (status : ℕ) → ProgramDoes (Do (Explore options)) s status
    → IfSome s.input (λ input. IsInvalidExploration input → IsFailure status × WritesNothing s)
