use Rattle.std.proofs.Common.{arith}
use Rattle.std.proofs.lemmas.Grind.{common_steps}
use Rattle.stm_history.proofs.AllowedEvents.{finish_same}
use Rattle.stm_history.proofs.stepping.finish_by.Goals as goal

pub returns-then-not-is_plan-clause-not_allowed : goal.returns-then-not-is_plan-clause-not_allowed
returns-then-not-is_plan-clause-not_allowed c = λ n s k a.
    let p = c.args.plan.now in
    let same = finish_same s c.args.ticket p.verdict c.args.verdict.now p.first_new c.args.first_new p.stale c.args.stale.now (c.requires.plan s k) a in
    let yes = c.is_plan.ensures.found (same.verdicts, same.firsts, same.tickets) in
    let no_ = c.if-not-is_plan.true in
    grind (arith, common_steps)
