use Rattle.stm_paper_laws.proofs.PaperLaws as proved
use Rattle.stm_paper_laws.proofs.laws.run_is_reached.Goals as goal

pub returns : goal.returns
returns c = proved.run_is_reached
