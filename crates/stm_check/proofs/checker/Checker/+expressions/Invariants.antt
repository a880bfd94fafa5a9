-- An operator stands between an expression and its operands.
use Rattle.std.proofs.Common.{◌+◌, ◌*◌}
use Rattle.stm_terms.specs.ParsedAst.{raw_term_of}
use Rattle.stm_check.proofs.Sizes.{operators}
use Rattle.stm_check.proofs.checker.Checker.+expressions.Given as goal

abbrev pub decreases-check_expr : goal.decreases-check_expr
decreases-check_expr l = 3 * operators (raw_term_of l.raw.now)

abbrev pub decreases-check_operand : goal.decreases-check_operand
decreases-check_operand l = 3 * operators (raw_term_of l.raw.now) + 1

abbrev pub decreases-check_operator : goal.decreases-check_operator
decreases-check_operator l = 3 * (operators (raw_term_of l.left.now) + operators (raw_term_of l.right.now)) + 2
