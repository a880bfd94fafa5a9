use Rattle.std.proofs.Common.{◌≡◌, ◌++◌, drop, string_bytes}
use Rattle.stm_commands.specs.Contents.{stored_lines}
use Rattle.stm_commands.proofs.commands.store.write_cells.Given as goal

abbrev pub invariant-loop-number : goal.invariant-loop-number
invariant-loop-number l = string_bytes l.out ++ stored_lines l.names l.number (drop l.number l.store) ≡ string_bytes l.fn.out ++ stored_lines l.names 0 l.store
