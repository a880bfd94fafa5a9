use Rattle.std.proofs.Common.{List, Err, subst}
use Rattle.stm_store.specs.Naming.{Named}
use Rattle.stm_event_lines.specs.ReadLines.{ReadsWaiting}
use Rattle.stm_history.proofs.ReachedStages.{block_unread}
use Rattle.stm_history.proofs.beginning.take_block.Goals as goal

pub returns-in-Err-clause-refused : goal.returns-in-Err-clause-refused
returns-in-Err-clause-refused c =
    block_unread c.args.format c.args.waiting c.args.checkpoint c.args.line.now c.in-Err.error c.head_refused.result c.head_refused.ensures
    (subst (λ (known : List Named). ReadsWaiting known c.args.line.now (Err c.in-Err.error)) c.names.ensures c.in-Err.ensures)
