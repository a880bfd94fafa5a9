use Rattle.std.proofs.Common.{◌≡◌, ◌+◌, drop}
use Rattle.stm_lines.specs.LineClass.{blanks_len}
use Rattle.stm_lines.proofs.judging.blanks_len.Given as goal

abbrev pub invariant-loop-at : goal.invariant-loop-at
invariant-loop-at l = blanks_len l.text ≡ l.at + blanks_len (drop l.at l.text)
