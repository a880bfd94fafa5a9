-- The exit statuses of the program.
use Rattle.std.specs.Prelude.{◌≡◌, ◌⊎◌, ℕ}
use Rattle.stm_lines.specs.RunStatus.{status_of}
use Rattle.stm_console.specs.declared.checking.Finding.{Finding}
use Rattle.stm_console.specs.declared.checking.Finding.TheVariants.{Legal, BadHeader, BadLine, NotLegal}
use Rattle.stm_console.specs.declared.status.TheConstants.{DONE, FAILED, NOT_RIGHT, NO_MEMORY}
use Rattle.stm_storm.specs.declared.storming.StormFault.{StormFault}
use Rattle.stm_storm.specs.declared.storming.StormFault.TheVariants.{Run, Script, Replay}

-- the program failed: its reader, its writer, a line of its script, memory or a thread
abbrev pub IsFailure : ℕ → Type 0
IsFailure status = (status ≡ FAILED) ⊎ (status ≡ NO_MEMORY)

-- after a storm that didn't succeed
abbrev pub storm_status : StormFault → ℕ
storm_status (Run fault) = status_of fault
storm_status (Script fault) = FAILED
storm_status Replay = NOT_RIGHT

-- after a check: the history is legal, or not
abbrev pub finding_status : Finding → ℕ
finding_status (Legal events) = DONE
finding_status BadHeader = NOT_RIGHT
finding_status (BadLine n) = NOT_RIGHT
finding_status (NotLegal n) = NOT_RIGHT
