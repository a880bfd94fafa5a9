use Rattle.std.proofs.Common.{subst}
use Rattle.stm_history.specs.declared.check.Stage.{Stage}
use Rattle.stm_history.specs.Stages.{IsStage}
use Rattle.stm_history.proofs.ReachedStages.{run_line}
use Rattle.stm_history.proofs.check.strange_fault.Goals as goal

pub returns-in-Running : goal.returns-in-Running
returns-in-Running c = λ p i.
    run_line c.in-Running.format c.in-Running.table c.in-Running.checkpoint c.in-Running.replayer c.line_number.result c.line_number.ensures p (subst (λ (s : Stage). IsStage s p) c.in-Running.is i)
