use Rattle.stm_paper_laws.proofs.PaperLaws as proved
use Rattle.stm_paper_laws.proofs.laws.ends_once.Goals as goal

pub returns : goal.returns
returns c = proved.ends_once
