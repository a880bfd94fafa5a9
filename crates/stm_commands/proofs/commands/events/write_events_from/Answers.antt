use Rattle.stm_commands.proofs.LaterEvents.{all_written, part_written}
use Rattle.stm_commands.proofs.commands.events.write_events_from.Goals as goal

pub returns-in-Ok : goal.returns-in-Ok
returns-in-Ok g c = all_written c.args.history.now c.args.n _ c.write_count.result _ _ _ c.events_before.ensures c.in-Ok.ensures c.write_count.ensures

pub returns-in-Err : goal.returns-in-Err
returns-in-Err g c = part_written c.args.history.now c.args.n _ _ _ c.events_before.ensures c.in-Err.ensures
