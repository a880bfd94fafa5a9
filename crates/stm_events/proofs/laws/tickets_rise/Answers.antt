use Rattle.stm_events.proofs.Rising.{tickets_rise}
use Rattle.stm_events.proofs.laws.tickets_rise.Goals as goal

pub returns : goal.returns
returns c = tickets_rise
