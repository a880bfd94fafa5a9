use Rattle.std.proofs.Common.{◌+◌, ◌*◌}
use Rattle.stm_terms.specs.ParsedAst.{raw_act_of, actions}
use Rattle.stm_check.proofs.checker.Checker.+actions.Given as goal

abbrev pub decreases-check_action : goal.decreases-check_action
decreases-check_action l = 3 * actions (raw_act_of l.raw.now)

abbrev pub decreases-check_part : goal.decreases-check_part
decreases-check_part l = 3 * actions (raw_act_of l.raw.now) + 1

abbrev pub decreases-check_if : goal.decreases-check_if
decreases-check_if l = 3 * (actions (raw_act_of l.first.now) + actions (raw_act_of l.second.now)) + 2

abbrev pub decreases-check_or_else : goal.decreases-check_or_else
decreases-check_or_else l = 3 * (actions (raw_act_of l.first.now) + actions (raw_act_of l.second.now)) + 2

abbrev pub decreases-check_catch : goal.decreases-check_catch
decreases-check_catch l = 3 * (actions (raw_act_of l.action.now) + actions (raw_act_of l.handler.now)) + 2

abbrev pub decreases-check_bind : goal.decreases-check_bind
decreases-check_bind l = 3 * (actions (raw_act_of l.bound.now) + actions (raw_act_of l.rest.now)) + 2

abbrev pub decreases-check_let : goal.decreases-check_let
decreases-check_let l = 3 * actions (raw_act_of l.rest.now) + 2

abbrev pub decreases-check_seq : goal.decreases-check_seq
decreases-check_seq l = 3 * (actions (raw_act_of l.statement.now) + actions (raw_act_of l.rest.now)) + 2
