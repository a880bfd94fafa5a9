use Rattle.stm_history_text.proofs.TextInParts.{table_1, table_2, table_whole}
use Rattle.stm_history_text.proofs.writing.write_table.Goals as goal

pub returns-in-Err : goal.returns-in-Err
returns-in-Err g c = table_1 c.args.format c.args.table.now _ _ _ c.len.ensures.len c.in-Err.ensures

pub returns-in-Err-write_variables : goal.returns-in-Err-write_variables
returns-in-Err-write_variables g c = table_2 c.args.format c.args.table.now _ _ _ _ c.len.ensures.len c.in-Ok.ensures c.in-Err-write_variables.ensures

pub returns-in-Ok-write_variables : goal.returns-in-Ok-write_variables
returns-in-Ok-write_variables g c = table_whole c.args.format c.args.table.now _ _ _ _ c.len.ensures.len c.in-Ok.ensures c.in-Ok-write_variables.ensures
