use Rattle.std.proofs.Common.{rules}
use Rattle.stm_history_text.proofs.TextInParts.{part_at, whole_at}
use Rattle.stm_history_text.proofs.writing.write_variables.Goals as goal

pub returns-in-Err : goal.returns-in-Err
returns-in-Err g c = part_at c.args.table.now c.loop-id.id _ _ _ (search rules) c.loop-id.invariant c.in-Err.ensures

pub loop-id-preserved : goal.loop-id-preserved
loop-id-preserved g c = whole_at c.args.table.now c.loop-id.id _ _ _ (search rules) c.loop-id.invariant c.in-Ok.ensures
