-- What a line reader and the calls that are left to it still have of an input.
use Rattle.std.specs.Prelude.{ℕ, List, Option}
use Rattle.std.specs.Io.KnownBytes.{prepend_known}
use Rattle.stm_lines.specs.declared.calls.Calls.{Calls}
use Rattle.stm_lines.specs.declared.line_reader.LineReader.{LineReader}
use Rattle.stm_lines.specs.TakenLines.{bytes_to_come}

-- what is still to be read: the bytes that a line reader holds, and what remains in the reader that it calls
abbrev pub unread : {R L : Type 0} → (R → Option (List ℕ)) → LineReader → Calls R L → Option (List ℕ)
unread remaining lines calls = prepend_known lines.chunk (remaining calls.reader.now)

-- how many bytes these are at most
abbrev pub most_unread : {R L : Type 0} → LineReader → Calls R L → ℕ
most_unread lines calls = bytes_to_come calls.left lines.chunk
