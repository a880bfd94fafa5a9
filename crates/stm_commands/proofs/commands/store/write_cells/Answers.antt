use Rattle.std.proofs.Common.{string_bytes}
use Rattle.stm_commands.proofs.CellLines.{one_more}
use Rattle.stm_commands.proofs.commands.store.write_cells.Goals as goal

pub loop-number-preserved : goal.loop-number-preserved
loop-number-preserved c =
    one_more (string_bytes c.loop-number.out) (string_bytes c.write_cell.new.out) _ c.args.names.now c.args.store.now c.loop-number.number c.cell.result c.cell.ensures c.in_ok-write_cell.ensures c.loop-number.invariant
