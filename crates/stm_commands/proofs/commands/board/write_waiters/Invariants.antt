use Rattle.std.proofs.Common.{◌≡◌, ◌++◌, length, string_bytes}
use Rattle.stm_desk.specs.DeskView.{state_of, labels_of}
use Rattle.stm_commands.specs.Labelling.{board_lines}
use Rattle.stm_commands.proofs.WaiterLines.{above}
use Rattle.stm_commands.proofs.commands.board.write_waiters.Given as goal

abbrev pub invariant-loop-ticket : goal.invariant-loop-ticket
invariant-loop-ticket l =
    string_bytes l.out ++ board_lines (labels_of l.desk) (state_of l.desk).store (above l.last (state_of l.desk).waiters) ≡ string_bytes l.fn.out ++ board_lines (labels_of l.desk) (state_of l.desk).store (state_of l.desk).waiters

abbrev pub decreases-loop-ticket : goal.decreases-loop-ticket
decreases-loop-ticket l = length (above l.last (state_of l.desk).waiters)
