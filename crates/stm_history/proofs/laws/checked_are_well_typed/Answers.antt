use Rattle.stm_event_lines.proofs.CheckedBlocks.{checked_are_well_typed}
use Rattle.stm_history.proofs.laws.checked_are_well_typed.Goals as goal

pub returns : goal.returns
returns c = checked_are_well_typed
