-- What a call that reads a line takes of the input, by its result.
use Rattle.std.specs.Prelude.{◌≡◌, ℕ, ◌+◌, ◌<◌, ◌≤◌, ⊤, Bool, List, Option, Result, Ok, Err}
use Rattle.stm_lines.specs.LineReading.{IsCommandLine}
use Rattle.stm_lines.specs.TakenLines.{IsRead, IsSkipped, StopsInLine}
use Rattle.stm_lines.specs.declared.command_lines.CommandLine.{CommandLine}
use Rattle.stm_lines.specs.declared.line_reader.Line.{Line}
use Rattle.stm_lines.specs.declared.line_reader.Line.TheVariants.{Whole, Last, TooLong, End}
use Rattle.stm_lines.specs.declared.line_reader.LineReader.{LineReader}
use Rattle.stm_lines.specs.declared.run_fault.RunFault.{RunFault}
use Rattle.stm_lines.specs.declared.run_fault.RunFault.TheVariants.{Read}

-- The next line, of at most `limit` bytes, was read into a line reader, or reading stopped in it; then the reader has the bytes that were
-- taken of it.
abbrev pub ReadsLine : ℕ → Option (List ℕ) → Option (List ℕ) → LineReader → Result Line RunFault → Type 0
ReadsLine limit old new lines (Ok line) = IsRead line limit old new lines.line.items
ReadsLine limit old new lines (Err e) = StopsInLine e old new lines.chunk lines.line.items

-- No more bytes are still to come than before; after a line of this many bytes that a line feed ended fewer, by more than these. After an
-- error nothing is said.
abbrev pub LeavesLess : Result Line RunFault → ℕ → ℕ → ℕ → Type 0
LeavesLess (Ok Whole) len new old = new + len < old
LeavesLess (Ok Last) len new old = new ≤ old
LeavesLess (Ok TooLong) len new old = new ≤ old
LeavesLess (Ok End) len new old = new ≤ old
LeavesLess (Err e) len new old = ⊤

-- The next line of a run or a script was read into a line reader, or reading stopped in it: only bytes of one line were taken, and no line
-- feed, and after a read fault all bytes that were read.
abbrev pub ReadsCommandLine : Option (List ℕ) → Option (List ℕ) → LineReader → Result CommandLine RunFault → Type 0
ReadsCommandLine old new lines (Ok line) = IsCommandLine line old new lines.line.items
ReadsCommandLine old new lines (Err e) = (bytes : List ℕ) × StopsInLine e old new lines.chunk bytes

-- The rest of a line was taken, or a read failed in it.
abbrev pub SkipsRest : Option (List ℕ) → Option (List ℕ) → LineReader → Result Bool RunFault → Type 0
SkipsRest old new lines (Ok feed) = IsSkipped feed old new
SkipsRest old new lines (Err e) = (e ≡ Read) × (bytes : List ℕ) × StopsInLine e old new lines.chunk bytes
