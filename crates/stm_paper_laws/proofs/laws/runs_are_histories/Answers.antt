use Rattle.stm_paper_laws.proofs.RunHistories as proved
use Rattle.stm_paper_laws.proofs.laws.runs_are_histories.Goals as goal

pub returns : goal.returns
returns c = proved.runs_are_histories
