use Rattle.stm_history.proofs.DueEvents.{submit_due}
use Rattle.stm_history.proofs.expecting.submit_next.Goals as goal

pub returns : goal.returns
returns c = λ s t k. submit_due s t c.in_ok-ticket.ticket c.args.block.now c.in_ok-waiting.waiting c.in_ok-block.block c.in_ok-waiting.ensures c.in_ok-block.ensures (c.in_ok-ticket.ensures.done s k).0
