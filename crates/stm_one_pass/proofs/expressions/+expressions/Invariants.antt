-- Each call takes a token, or is of a lower rank.
use Rattle.std.proofs.Common.{◌+◌, ◌*◌, length}
use Rattle.stm_one_pass.proofs.expressions.+expressions.Given as goal

abbrev pub decreases-atom : goal.decreases-atom
decreases-atom l = 8 * length l.toks.now

abbrev pub decreases-bracketed : goal.decreases-bracketed
decreases-bracketed l = 8 * length l.toks.now + 7

abbrev pub decreases-tier : goal.decreases-tier
decreases-tier l = 8 * length l.toks.now + 2

abbrev pub decreases-climb : goal.decreases-climb
decreases-climb l = 8 * length l.toks.now + 1

abbrev pub decreases-climb_past : goal.decreases-climb_past
decreases-climb_past l = 8 * length l.toks.now + 3
