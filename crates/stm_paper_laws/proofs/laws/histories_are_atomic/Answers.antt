use Rattle.stm_paper_laws.proofs.HistoryTurns as proved
use Rattle.stm_paper_laws.proofs.laws.histories_are_atomic.Goals as goal

pub returns : goal.returns
returns c = proved.histories_are_atomic
