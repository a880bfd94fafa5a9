use Rattle.stm_events.proofs.DrainCounts.{draining_runs_what_is_due}
use Rattle.stm_events.proofs.laws.draining_runs_what_is_due.Goals as goal

pub returns : goal.returns
returns c = draining_runs_what_is_due
