use Rattle.stm_desk_laws.proofs.HistoryRange.{histories_stay_64_bit}
use Rattle.stm_desk_laws.proofs.laws.histories_stay_in_range.Goals as goal

pub returns : goal.returns
returns c = histories_stay_64_bit
