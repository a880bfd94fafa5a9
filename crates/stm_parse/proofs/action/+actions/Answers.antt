-- One level deeper, where there is such a level; and one statement after another.
use Rattle.std.proofs.Common.{arith, rules}
use Rattle.stm_parse.specs.Descent.{action_at, paren_at}
use Rattle.stm_parse.proofs.ActLevels.{inside_act_none, inside_act_some, action_at_if, body_more}
use Rattle.stm_parse.proofs.action.+actions.Goals as goal

pub boxed_action-returns-in_err-inner-in-Do-clause-gives : goal.boxed_action-returns-in_err-inner-in-Do-clause-gives
unfolding action_at
boxed_action-returns-in_err-inner-in-Do-clause-gives t c = grind (arith, inside_act_none)

pub boxed_action-returns-in_err-inner-in-If-clause-gives : goal.boxed_action-returns-in_err-inner-in-If-clause-gives
unfolding action_at
boxed_action-returns-in_err-inner-in-If-clause-gives t c = grind (arith, inside_act_none)

pub boxed_action-returns-in_err-inner-in-OrElse-clause-gives : goal.boxed_action-returns-in_err-inner-in-OrElse-clause-gives
unfolding action_at
boxed_action-returns-in_err-inner-in-OrElse-clause-gives t c = grind (arith, inside_act_none)

pub boxed_action-returns-in_err-inner-in-Catch-clause-gives : goal.boxed_action-returns-in_err-inner-in-Catch-clause-gives
unfolding action_at
boxed_action-returns-in_err-inner-in-Catch-clause-gives t c = grind (arith, inside_act_none)

pub boxed_action-returns-in_err-inner-in-LParen-clause-gives : goal.boxed_action-returns-in_err-inner-in-LParen-clause-gives
unfolding action_at
boxed_action-returns-in_err-inner-in-LParen-clause-gives t c = grind (arith, inside_act_none)

pub boxed_action-returns-in_ok-inner-in-Do-clause-gives : goal.boxed_action-returns-in_ok-inner-in-Do-clause-gives
unfolding action_at
boxed_action-returns-in_ok-inner-in-Do-clause-gives t c = grind (arith, inside_act_some)

pub boxed_action-returns-in_ok-inner-in-If-clause-gives : goal.boxed_action-returns-in_ok-inner-in-If-clause-gives
boxed_action-returns-in_ok-inner-in-If-clause-gives t c =
    let left = c.in_ok-inner-in-If.ensures in
    let e = action_at_if c.args.levels c.in_ok-inner-in-If.inner c.args.toks.now c.in-Some.rest.now c.in-Some.first.now (search rules) (search rules) left.0 left.1 in
    rw e c.if_then_else.ensures.gives

pub boxed_action-returns-in_ok-inner-in-OrElse-clause-gives : goal.boxed_action-returns-in_ok-inner-in-OrElse-clause-gives
unfolding action_at
boxed_action-returns-in_ok-inner-in-OrElse-clause-gives t c = grind (arith, inside_act_some)

pub boxed_action-returns-in_ok-inner-in-Catch-clause-gives : goal.boxed_action-returns-in_ok-inner-in-Catch-clause-gives
unfolding action_at
boxed_action-returns-in_ok-inner-in-Catch-clause-gives t c = grind (arith, inside_act_some)

pub boxed_action-returns-in_ok-inner-in-LParen-clause-gives : goal.boxed_action-returns-in_ok-inner-in-LParen-clause-gives
unfolding action_at
boxed_action-returns-in_ok-inner-in-LParen-clause-gives t c = grind (arith, inside_act_some)

pub paren-returns-in_err-inner-clause-gives : goal.paren-returns-in_err-inner-clause-gives
unfolding paren_at
paren-returns-in_err-inner-clause-gives t c = grind (arith, inside_act_none)

pub paren-returns-clause-gives : goal.paren-returns-clause-gives
unfolding paren_at
paren-returns-clause-gives t c = grind (arith, inside_act_some)

pub body-returns-in_default-clause-gives : goal.body-returns-in_default-clause-gives
body-returns-in_default-clause-gives t c = grind (arith, body_more)

pub body-returns-then-is_name_kind-clause-gives : goal.body-returns-then-is_name_kind-clause-gives
body-returns-then-is_name_kind-clause-gives t c = grind (arith, body_more)

pub body-returns-then-is-clause-gives : goal.body-returns-then-is-clause-gives
body-returns-then-is-clause-gives t c = grind (arith, body_more)

pub body-returns-clause-gives : goal.body-returns-clause-gives
body-returns-clause-gives t c = grind (arith, body_more)
