use Rattle.stm_queue.proofs.Membership.{has_without}
use Rattle.stm_queue.proofs.Merging.{has_with}
use Rattle.stm_queue.proofs.laws.tickets_come_and_go.Goals as goal

pub returns : goal.returns
returns c = record { added = has_with; removed = has_without }
