use Rattle.stm_events.proofs.Ready.{ready_finishes_next}
use Rattle.stm_events.proofs.laws.ready_finishes_next.Goals as goal

pub returns : goal.returns
returns c = ready_finishes_next
