use Rattle.stm_parse.proofs.TokenizationUnique.{one_by_rules}
use Rattle.stm_parse.proofs.laws_of_tokens.tokenization_is_unique.Goals as goal

pub returns : goal.returns
returns c = one_by_rules
