use Rattle.stm_paper_laws.proofs.HistoryLaws as proved
use Rattle.stm_paper_laws.proofs.laws.blocked_wait.Goals as goal

pub returns : goal.returns
returns c = proved.blocked_wait
