use Rattle.stm_parse.proofs.GrammarLaws.{comparisons_apart}
use Rattle.stm_parse.proofs.laws.comparisons_are_not_chained.Goals as goal

pub returns : goal.returns
returns c = comparisons_apart
