-- What a run keeps while it takes its input line by line.
use Rattle.std.specs.Prelude.{◌≡◌, ℕ, Bool, List, ◌++◌, Option, Some, IfSome, MatchBool}
use Rattle.std.specs.Io.KnownBytes.{Appends, Consumes}
use Rattle.stm_lines.specs.Lines.{lines_of, whole_lines_of}
use Rattle.stm_lines.specs.WrittenFronts.{WritesFront}
use Rattle.stm_run.specs.declared.console.Console.{Console}
use Rattle.stm_run.specs.declared.session.Session.{Session}
use Rattle.stm_run.specs.Console.{answers_to}

-- what is written for the bytes that follow
unfoldable pub rest_text : Console → List ℕ → List ℕ
rest_text s rest = answers_to s (lines_of rest)

-- what is written for those lines of the bytes that follow which a line feed ends
unfoldable pub whole_rest_text : Console → List ℕ → List ℕ
whole_rest_text s rest = answers_to s (whole_lines_of rest)

-- having taken these bytes and written these, the console goes on as it would have from the start
pub record Continues (s t : Console) (taken written : List ℕ) : Type 0 where
  pub all : (more : List ℕ) → rest_text s (taken ++ more) ≡ written ++ rest_text t more
  pub whole : (more : List ℕ) → whole_rest_text s (taken ++ more) ≡ written ++ whole_rest_text t more

-- ---- how far a run is
-- what the console is, what is still to be read, and what was written; the last two if they are known
pub record RunState : Type 0 where
  pub console : Console
  pub rest : Option (List ℕ)
  pub written : Option (List ℕ)

-- with the console of a session
abbrev pub run_state : Session → Option (List ℕ) → Option (List ℕ) → RunState
run_state session rest written = record { console = session.console; rest = rest; written = written }

-- ---- how it goes on
-- lines of the input were taken, and their answers written
pub record HasAnswered (earlier later : RunState) : Type 0 where
  pub taken : List ℕ
  pub written : List ℕ
  pub consumed : Consumes earlier.rest later.rest taken
  pub continues : Continues earlier.console later.console taken written
  pub appended : Appends earlier.written later.written written

-- the whole text was written
abbrev pub HasAnsweredAll : RunState → Option (List ℕ) → Type 0
HasAnsweredAll earlier written = IfSome earlier.rest (λ input. Appends earlier.written written (rest_text earlier.console input))

-- the next line was answered, and more may follow; or if not, the whole text was written
abbrev pub HasAnsweredNext : RunState → RunState → Bool → Type 0
HasAnsweredNext earlier later more = MatchBool more (HasAnswered earlier later) (HasAnsweredAll earlier later.written)

-- a front of the text was written
abbrev pub HasAnsweredPart : RunState → Option (List ℕ) → Type 0
HasAnsweredPart earlier written =
    IfSome earlier.rest (λ input. WritesFront earlier.written written (rest_text earlier.console input))

-- the text of the lines that were whole in what was taken was written, and this is left
abbrev pub HasAnsweredWhole : RunState → Option (List ℕ) → Option (List ℕ) → Type 0
HasAnsweredWhole earlier left written =
    IfSome earlier.rest (λ input. (taken rest : List ℕ) × (input ≡ taken ++ rest) × (left ≡ Some rest)
    × Appends earlier.written written (whole_rest_text earlier.console taken))
