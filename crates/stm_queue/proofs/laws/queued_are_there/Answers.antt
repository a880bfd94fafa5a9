use Rattle.stm_queue.proofs.Membership.{in_queue}
use Rattle.stm_queue.proofs.laws.queued_are_there.Goals as goal

pub returns : goal.returns
returns c = in_queue
