use Rattle.std.proofs.Common.{◌≡◌, ◌+◌, drop}
use Rattle.stm_lines.specs.LineClass.{command_len}
use Rattle.stm_lines.proofs.judging.command_len.Given as goal

abbrev pub invariant-loop-at : goal.invariant-loop-at
invariant-loop-at l = command_len l.text ≡ l.at + command_len (drop l.at l.text)
