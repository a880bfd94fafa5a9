use Rattle.stm_paper_laws.proofs.PaperLaws as proved
use Rattle.stm_paper_laws.proofs.laws.ends_are_same.Goals as goal

pub returns : goal.returns
returns c = proved.ends_are_same
