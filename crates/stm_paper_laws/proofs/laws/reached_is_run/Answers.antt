use Rattle.stm_paper_laws.proofs.PaperLaws as proved
use Rattle.stm_paper_laws.proofs.laws.reached_is_run.Goals as goal

pub returns : goal.returns
returns c = proved.reached_is_run
