use Rattle.std.proofs.Common.{rules}
use Rattle.stm_history_text.proofs.TextInParts.{cells_part_at, cells_whole_at}
use Rattle.stm_history_text.proofs.writing.write_cells.Goals as goal

pub returns-in-Err : goal.returns-in-Err
returns-in-Err g c = cells_part_at c.args.names.now c.args.store.now c.loop-id.id _ _ _ (search rules) c.loop-id.invariant c.in-Err.ensures

pub loop-id-preserved : goal.loop-id-preserved
loop-id-preserved g c = cells_whole_at c.args.names.now c.args.store.now c.loop-id.id _ _ _ (search rules) c.loop-id.invariant c.in-Ok.ensures
