use Rattle.std.proofs.Common.{subst, arith}
use Rattle.stm_events.specs.SlowDesk.{initial_state}
use Rattle.stm_events.specs.declared.staleness.StalenessRule.{StalenessRule}
use Rattle.stm_machine.specs.Machine.{IsAt}
use Rattle.stm_history.proofs.AllowedEvents.{begun_at}
use Rattle.stm_history.proofs.replayer.Replayer.open.Goals as goal

pub returns-clause-follows : goal.returns-clause-follows
returns-clause-follows c =
    begun_at c.begin.result _ c.in_ok-machine.machine c.begin.ensures.follows
    (subst (λ (rule : StalenessRule). IsAt c.in_ok-machine.machine (initial_state rule c.args.table.now)) c.staleness_rule.ensures c.in_ok-machine.ensures.at) (omega arith)
