use Rattle.stm_paper_laws.proofs.AtomicLaws as proved
use Rattle.stm_paper_laws.proofs.laws.atomic_is_run.Goals as goal

pub returns : goal.returns
returns c = proved.atomic_is_run
