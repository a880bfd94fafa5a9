use Rattle.std.proofs.Common.{◌-◌, length}
use Rattle.stm_embed.specs.Feeding.{HasFed}
use Rattle.stm_embed.proofs.feeding.answer_lines.Given as goal

abbrev pub invariant-loop-end : goal.invariant-loop-end
invariant-loop-end l = HasFed l.lines l.initial.session.console l.session.console l.initial.answers.items l.answers.items l.count

abbrev pub decreases-loop-end : goal.decreases-loop-end
decreases-loop-end l = length l.lines - l.count
