use Rattle.stm_waiting.proofs.Searched.{count_at}
use Rattle.stm_waiting.proofs.table.Table.count_up_to.Goals as goal

pub returns-in-Some : goal.returns-in-Some
returns-in-Some c = count_at c.args.ticket c.in-Some.at c.args.self.now.places.items c.requires c.in-Some.ensures.0 c.in-Some.ensures.1
