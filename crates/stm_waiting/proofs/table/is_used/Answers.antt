use Rattle.stm_waiting.proofs.Searched.{told}
use Rattle.stm_waiting.proofs.table.is_used.Goals as goal

pub returns : goal.returns
returns c = told c.is_some.result c.held_at.result c.args.one.now c.args.slots.now c.held_at.ensures c.is_some.ensures
