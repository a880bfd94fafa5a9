use Rattle.std.proofs.Common.{◌≡◌, Some, drop}
use Rattle.stm_history_file.specs.LineLengths.{last_line_after}
use Rattle.stm_history_file.proofs.measured.last_line_after.Given as goal

abbrev pub invariant-loop-byte : goal.invariant-loop-byte
invariant-loop-byte l = last_line_after (Some l.fn.line) l.bytes ≡ last_line_after (Some l.line) (drop l.byte-index l.bytes)
