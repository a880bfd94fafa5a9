use Rattle.stm_history.proofs.ReachedStages.{cell_unread}
use Rattle.stm_history.proofs.beginning.take_cell.Goals as goal

pub returns-in-Err-clause-refused : goal.returns-in-Err-clause-refused
returns-in-Err-clause-refused c =
    let h = c.args.header in
    cell_unread h.format h.next h.vars h.waiting c.args.names c.args.cells.items c.args.line.now c.in-Err.error c.head_refused.result c.head_refused.ensures c.in-Err.ensures
