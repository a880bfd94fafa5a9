use Rattle.std.proofs.Common.{subst}
use Rattle.std.specs.Prelude.{IfOk}
use Rattle.stm_machine.specs.Atomic.{PlansRun}
use Rattle.stm_machine.specs.Machine.{Parts}
use Rattle.stm_machine.proofs.RunAtOnce.{if_planned}
use Rattle.stm_machine.proofs.machine.Machine.plan_run.Goals as goal

pub returns-clause-plan : goal.returns-clause-plan
returns-clause-plan c =
    subst (λ (m : Parts). IfOk c.make_plan.result (λ p. PlansRun m c.args.verdict.now p.first_new p.stale)) c.self.view_is
    (if_planned _ c.args.verdict.now c.make_plan.result c.make_plan.ensures.first_new c.make_plan.ensures.rising c.make_plan.ensures.watchers)
