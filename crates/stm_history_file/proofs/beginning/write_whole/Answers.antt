use Rattle.stm_history_text.proofs.TextInParts.{part_after, part_within}
use Rattle.stm_history_file.proofs.beginning.write_whole.Goals as goal

pub returns-in-Err : goal.returns-in-Err
returns-in-Err g c = part_within _ _ _ _ c.in-Err.ensures

pub returns-in-Err-write_events : goal.returns-in-Err-write_events
returns-in-Err-write_events g c = part_after _ _ _ _ _ c.in-Ok.ensures c.in-Err-write_events.ensures
