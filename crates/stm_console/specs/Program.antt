-- What the program does, by what its words ask for: how it ends, and what it reads and writes.
use Rattle.std.specs.Prelude.{◌≡◌, ◌⊎◌, ℕ, List, [], ◌∷◌, Option, None, if◌then◌else◌, IfSome}
use Rattle.std.specs.Io.KnownBytes.{Appends, Keeps}
use Rattle.clap.specs.Words.{Kinds}
use Rattle.stm_lines.specs.Lines.{lines_of}
use Rattle.stm_lines.specs.WrittenFronts.{WritesFront, WritesSome}
use Rattle.stm_history.specs.declared.loading.Loaded.{Loaded}
use Rattle.stm_journal.specs.Text.{recovered}
use Rattle.stm_history_file.specs.Durable.{LoadsFront}
use Rattle.stm_run.specs.declared.console.Console.{Console}
use Rattle.stm_run.specs.Console.{console_text}
use Rattle.stm_run.specs.LineCheckpoints.{Turn, answers_by, ForTurns}
use Rattle.stm_options.specs.declared.options.Options.{Options}
use Rattle.stm_journaled_run.specs.DurableRun.{resumed_console}
use Rattle.stm_storm.specs.StormText.{IsFailedStormText, IsInvalidStorm, IsStormText}
use Rattle.stm_explore_script.specs.ExploreEnd.{WritesNotRight, WritesRight}
use Rattle.stm_explore_script.specs.ExploreResult.{IsInvalidExploration}
use Rattle.stm_command_line.specs.CommandLine.{answers_of, are_mistakes, is_help, is_version, request_of, version_line}
use Rattle.stm_command_line.specs.declared.command_line.Request.{Request}
use Rattle.stm_command_line.specs.declared.command_line.Request.TheVariants.{Run, RunOn, Storm, Explore, Check, CheckWhy}
use Rattle.stm_console.specs.Checking.{BeginsFindingText, IsFinding, finding_text}
use Rattle.stm_console.specs.ExitStatus.{IsFailure, finding_status}
use Rattle.stm_console.specs.declared.checking.Finding.{Finding}
use Rattle.stm_console.specs.Journal.{HasNoHistory}
use Rattle.stm_console.specs.Why.{BeginsAnswerWhy, IsAnswerWhy}
use Rattle.stm_console.specs.declared.status.TheConstants.{DONE, NOT_RIGHT, NO_MEMORY, REFUSED}

-- ---- what words ask for

-- what the program is asked for by its words
pub data Asked : Type 0 where
  Help : Asked
  Version : Asked
  -- the words are wrong
  Mistake : Asked
  -- clap prints one of several things: of the word `help` it prints help, or that what follows is wrong
  Several : Asked
  -- a run, a storm, an exploration or a check
  Do : Request → Asked

-- what the program is asked for, by the kinds of what clap may print of the words; if there are none, by the request
abbrev pub asked_of : Kinds → Request → Asked
asked_of [] request = Do request
asked_of (kind ∷ kinds) request =
    if are_mistakes (kind ∷ kinds) then Mistake
    else if is_help (kind ∷ kinds) then Help
    else if is_version (kind ∷ kinds) then Version
    else Several

abbrev pub asked_by : List (List ℕ) → Asked
asked_by words = asked_of (answers_of words) (request_of words)

-- ---- what is read and written

-- The bytes that the reader has left, before the program and after it, those that the writer has got, and those of each file by
-- its name before the program; none if they aren't known.
pub record Streams : Type 0 where
  pub input : Option (List ℕ)
  pub rest : Option (List ℕ)
  pub before : Option (List ℕ)
  pub after : Option (List ℕ)
  pub files : List ℕ → Option (List ℕ)

-- the streams of what uses no file
abbrev pub streams : Option (List ℕ) → Option (List ℕ) → Option (List ℕ) → Option (List ℕ) → Streams
streams input rest before after =
    record { input = input; rest = rest; before = before; after = after; files = λ name. None }

-- the streams and the files of the whole program
abbrev pub program_streams :
    (List ℕ → Option (List ℕ)) → Option (List ℕ) → Option (List ℕ) → Option (List ℕ) → Option (List ℕ) → Streams
program_streams files input rest before after =
    record { input = input; rest = rest; before = before; after = after; files = files }

abbrev pub ReadsNothing : Streams → Type 0
ReadsNothing s = Keeps s.input s.rest

abbrev pub WritesNothing : Streams → Type 0
WritesNothing s = Keeps s.before s.after

-- this text is written
abbrev pub Writes : Streams → List ℕ → Type 0
Writes s text = Appends s.before s.after text

-- a part of this text is written, from its front
abbrev pub WritesPartOf : Streams → List ℕ → Type 0
WritesPartOf s text = WritesFront s.before s.after text

-- a text of which P holds is written
abbrev pub WritesA : Streams → (List ℕ → Type 0) → Type 0
WritesA s P = WritesSome P s.before s.after

-- ---- how the program ends

-- with this status, and P holds of its input, if that is known
abbrev pub EndsBy : ℕ → Streams → ℕ → (List ℕ → Type 0) → Type 0
EndsBy this s status P = (status ≡ this) × IfSome s.input P

-- with the status of a failure, and P holds of its input, if that is known
abbrev pub Fails : Streams → ℕ → (List ℕ → Type 0) → Type 0
Fails s status P = IsFailure status × IfSome s.input P

-- ---- a run on a file

-- this holds of the lines of an input, if for some of them the checkpoint can't be made; the contract of `run_durable` says why it can't
abbrev pub OverLines : List ℕ → (List (Turn (Unit {0})) → Type 0) → Type 0
OverLines input P = ForTurns (Unit {0}) (lines_of input) P

-- a run that begins as this console, and makes a checkpoint by itself at as many events as this, writes the whole text of its input, or a part
-- of it
abbrev pub RunsFrom : ℕ → Console → Streams → ℕ → Type 0
RunsFrom every console s status =
    EndsBy DONE s status (λ input. OverLines input (λ turns. Writes s (answers_by every console turns)))
    ⊎ Fails s status (λ input. OverLines input (λ turns. WritesPartOf s (answers_by every console turns)))

-- It goes on from the history that was loaded of the file, of which these are the bytes if they are known; or it ends before
-- anything is read or written: the file has no history, or it can't be opened.
abbrev pub RunsOn : Options → Option (List ℕ) → Streams → ℕ → Type 0
RunsOn options contents s status =
    ((loaded : Option Loaded) × IfSome contents (λ bytes. LoadsFront (recovered bytes) loaded)
    × RunsFrom options.checkpoint_every (resumed_console options.max_events loaded) s status)
    ⊎ (ReadsNothing s × WritesNothing s × (((status ≡ NOT_RIGHT) × IfSome contents HasNoHistory) ⊎ IsFailure status))

-- ---- what the program does

-- asked for this, the program reads and writes so, and ends with the exit status
abbrev pub ProgramDoes : Asked → Streams → ℕ → Type 0
-- of help it is only said that nothing is read, and not which text is printed; it fails if the writer does or memory runs out
ProgramDoes Help s status = ReadsNothing s × ((status ≡ DONE) ⊎ IsFailure status)
-- the version's line is printed, or a part of it
ProgramDoes Version s status = ReadsNothing s
    × (((status ≡ DONE) × Writes s version_line)
    ⊎ (IsFailure status × WritesPartOf s version_line))
-- wrong words are refused
ProgramDoes Mistake s status = ReadsNothing s × WritesNothing s × ((status ≡ REFUSED) ⊎ (status ≡ NO_MEMORY))
-- the words are refused, and nothing is written; or help is printed, of which no more is said than above
ProgramDoes Several s status = ReadsNothing s
    × (((status ≡ REFUSED) × WritesNothing s)
    ⊎ ((status ≡ DONE) ⊎ IsFailure status))
-- a run writes the whole text of its input, or a part of it
ProgramDoes (Do (Run options)) s status =
    EndsBy DONE s status (λ input. Writes s (console_text options.max_events input))
    ⊎ Fails s status (λ input. WritesPartOf s (console_text options.max_events input))
-- a run on a file goes on from the history that the file has
ProgramDoes (Do (RunOn options sync file)) s status = RunsOn options (s.files file) s status
-- a storm writes a text of its script; with status 3 that of a failed storm, if the history that its clients left isn't found legal. If it
-- fails it may write anything, but of an invalid script nothing
ProgramDoes (Do (Storm options)) s status =
    EndsBy DONE s status (λ input. WritesA s (IsStormText input))
    ⊎ (EndsBy NOT_RIGHT s status (λ input. WritesA s (IsFailedStormText input))
    ⊎ Fails s status (λ input. IsInvalidStorm input → WritesNothing s))
-- an exploration ends with success only if nothing is wrong with any state that its clients can reach, and writes so; with status 3 it
-- writes which fault it found, or that there are more states than may be kept. If it fails it may write anything, but of an invalid script
-- nothing
ProgramDoes (Do (Explore options)) s status =
    EndsBy DONE s status (λ input. WritesRight options.history options input s.before s.after)
    ⊎ (EndsBy NOT_RIGHT s status (λ input. WritesNotRight options.history options input s.before s.after)
    ⊎ Fails s status (λ input. IsInvalidExploration input → WritesNothing s))
-- a check writes what it finds of the bytes, which the status says too; or it fails, and writes nothing or a front of that
ProgramDoes (Do Check) s status =
    ((f : Finding) × (status ≡ finding_status f) × IfSome s.input (λ bytes. IsFinding bytes f) × Writes s (finding_text f))
    ⊎ Fails s status (λ bytes. WritesA s (BeginsFindingText bytes))
-- with `--why` it also writes why
ProgramDoes (Do CheckWhy) s status =
    ((f : Finding) × (status ≡ finding_status f) × IfSome s.input (λ bytes. WritesA s (IsAnswerWhy bytes f)))
    ⊎ Fails s status (λ bytes. WritesA s (BeginsAnswerWhy bytes))
