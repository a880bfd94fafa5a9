use Rattle.stm_parse.proofs.TokenizationUnique.{each_by_rules}
use Rattle.stm_parse.proofs.laws_of_tokens.tokens_are_maximal.Goals as goal

pub returns : goal.returns
returns c = each_by_rules
