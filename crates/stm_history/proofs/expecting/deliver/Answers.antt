use Rattle.stm_history.proofs.DueEvents.{deliver_due}
use Rattle.stm_history.proofs.expecting.deliver.Goals as goal

pub returns-in-Ok : goal.returns-in-Ok
returns-in-Ok c = λ s v k. deliver_due s _ _ v _ _ c.ticket-ticket.ensures c.in-Ok.ensures.verdict (c.in-Ok.ensures.moves.0 s k).0
