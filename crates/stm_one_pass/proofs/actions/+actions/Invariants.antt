-- Each call takes a token, or is of a lower rank.
use Rattle.std.proofs.Common.{◌+◌, ◌*◌, length}
use Rattle.stm_one_pass.proofs.actions.+actions.Given as goal

abbrev pub decreases-action : goal.decreases-action
decreases-action l = 6 * length l.toks.now + 0

abbrev pub decreases-closed : goal.decreases-closed
decreases-closed l = 6 * length l.toks.now + 1

abbrev pub decreases-paren : goal.decreases-paren
decreases-paren l = 6 * length l.toks.now + 0

abbrev pub decreases-or_else : goal.decreases-or_else
decreases-or_else l = 6 * length l.toks.now + 1

abbrev pub decreases-handler : goal.decreases-handler
decreases-handler l = 6 * length l.toks.now + 1

abbrev pub decreases-catch : goal.decreases-catch
decreases-catch l = 6 * length l.toks.now + 2

abbrev pub decreases-if_then_else : goal.decreases-if_then_else
decreases-if_then_else l = 6 * length l.toks.now + 1

abbrev pub decreases-block : goal.decreases-block
decreases-block l = 6 * length l.toks.now + 3

abbrev pub decreases-body : goal.decreases-body
decreases-body l = 6 * length l.toks.now + 2

abbrev pub decreases-inner : goal.decreases-inner
decreases-inner l = 6 * length l.toks.now + 3

abbrev pub decreases-bound : goal.decreases-bound
decreases-bound l = 6 * length l.toks.now + 4

abbrev pub decreases-let_bound : goal.decreases-let_bound
decreases-let_bound l = 6 * length l.toks.now + 4

abbrev pub decreases-sequence : goal.decreases-sequence
decreases-sequence l = 6 * length l.toks.now + 1
