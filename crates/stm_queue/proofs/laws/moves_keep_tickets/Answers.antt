use Rattle.stm_queue.proofs.Membership.{has_marked, has_sent_out, has_recalled}
use Rattle.stm_queue.proofs.laws.moves_keep_tickets.Goals as goal

pub returns : goal.returns
returns c = record { marked = has_marked; sent = has_sent_out; recalled = has_recalled }
