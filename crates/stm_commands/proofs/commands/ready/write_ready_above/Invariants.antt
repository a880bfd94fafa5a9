use Rattle.std.proofs.Common.{◌≡◌, ◌++◌, length, string_bytes}
use Rattle.std.specs.Prelude.{decimal}
use Rattle.stm_terms.specs.Texts.{spaced}
use Rattle.stm_desk.specs.DeskView.{state_of}
use Rattle.stm_commands.specs.Questions.{ready_above}
use Rattle.stm_commands.proofs.commands.ready.write_ready_above.Given as goal

abbrev pub invariant-loop-next : goal.invariant-loop-next
invariant-loop-next l =
    string_bytes l.out ++ spaced decimal (ready_above l.last (state_of l.desk)) ≡ string_bytes l.fn.out ++ spaced decimal (ready_above l.fn.ticket (state_of l.desk))

abbrev pub decreases-loop-next : goal.decreases-loop-next
decreases-loop-next l = length (ready_above l.last (state_of l.desk))
