use Rattle.stm_paper_laws.proofs.AtomicLaws as proved
use Rattle.stm_paper_laws.proofs.laws.verdicts_are_atomic.Goals as goal

pub returns : goal.returns
returns c = proved.verdicts_are_atomic
