use Rattle.stm_paper_laws.proofs.HistoryLaws as proved
use Rattle.stm_paper_laws.proofs.laws.finishes_are_atomic.Goals as goal

pub returns : goal.returns
returns c = proved.finishes_are_atomic
