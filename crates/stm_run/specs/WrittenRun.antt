-- What a run, and one line of it, has written, by its result. `input` are the bytes that the reader had left, and `left` those that it has left;
-- `old` and `new` are those that the writer had before and has after the call. None if they aren't known.
use Rattle.std.specs.Prelude.{◌≡◌, ◌≢◌, ℕ, List, ◌++◌, Option, Some, Result, Ok, Err, IfSome}
use Rattle.std.specs.Io.KnownBytes.{Appends}
use Rattle.stm_history_text.specs.declared.writing.WriteFault.{WriteFault}
use Rattle.stm_history_text.specs.declared.writing.WriteFault.TheVariants as write_fault
use Rattle.stm_lines.specs.declared.run_fault.RunFault.{RunFault}
use Rattle.stm_lines.specs.declared.run_fault.RunFault.TheVariants.{Read, Write, NoMemory}
use Rattle.stm_lines.specs.WrittenFronts.{WritesFront}
use Rattle.stm_run.specs.declared.console.Console.{Console}
use Rattle.stm_run.specs.Console.{answer_to, console_text, state_after, whole_lines_text}

-- ---- a whole run
-- the text of the lines that were whole in what was taken of the input was written
abbrev pub WritesWholeLines : ℕ → List ℕ → Option (List ℕ) → Option (List ℕ) → Option (List ℕ) → Type 0
WritesWholeLines max_events input left old new =
    (taken rest : List ℕ) × (input ≡ taken ++ rest) × (left ≡ Some rest) × Appends old new (whole_lines_text max_events taken)

-- A run has failed.
pub record FailsRun (max_events : ℕ) (input left old new : Option (List ℕ)) (e : RunFault) : Type 0 where
  -- a front of the text of the input was written
  pub part : IfSome input (λ i. WritesFront old new (console_text max_events i))
  -- after a read fault it is the text of the lines that were whole in what was taken of the input
  pub whole : e ≡ Read → IfSome input (λ i. WritesWholeLines max_events i left old new)

-- what a run has written
abbrev pub WritesRun : ℕ → Option (List ℕ) → Option (List ℕ) → Option (List ℕ) → Option (List ℕ) → Result (Unit {0}) RunFault → Type 0
-- the whole text of the input
WritesRun max_events input left old new (Ok done) = IfSome input (λ i. Appends old new (console_text max_events i))
WritesRun max_events input left old new (Err e) = FailsRun max_events input left old new e

-- ---- a history
-- what the fault of writing a history is to a run
abbrev pub run_fault_of : WriteFault → RunFault
run_fault_of write_fault.Write = Write
run_fault_of write_fault.NoMemory = NoMemory

-- ---- one line
-- what was written of the answer to a line, and which console comes after it; after an error nothing is said of the console
abbrev pub WritesAnswer : Console → List ℕ → Console → Option (List ℕ) → Option (List ℕ) → Result (Unit {0}) RunFault → Type 0
-- the whole answer was, and the console is the one after the line
WritesAnswer earlier line later old new (Ok done) = Appends old new (answer_to earlier line) × (later ≡ state_after earlier line)
-- a front of it was; no reader is called, so none fails
WritesAnswer earlier line later old new (Err e) = WritesFront old new (answer_to earlier line) × (e ≢ Read)
