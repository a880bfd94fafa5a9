use Rattle.stm_history.proofs.ReachedStages.{running_leads, running_refused}
use Rattle.stm_history.proofs.check.take_line.Goals as goal

pub returns-in-Running-clause-leads : goal.returns-in-Running-clause-leads
returns-in-Running-clause-leads c =
    let r = c.in-Running in running_leads _ c.args.stage.now r.format r.table r.checkpoint r.replayer _ c.args.line.now r.is c.take_event_line.ensures.leads

pub returns-in-Running-clause-refused : goal.returns-in-Running-clause-refused
returns-in-Running-clause-refused c =
    let r = c.in-Running in running_refused _ c.args.stage.now r.format r.table r.checkpoint r.replayer c.args.line.now r.is c.take_event_line.ensures.refused
