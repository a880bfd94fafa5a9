use Rattle.stm_parse.proofs.GrammarLaws.{products_left, sums_left}
use Rattle.stm_parse.proofs.laws.sums_and_products_group_to_the_left.Goals as goal

pub returns-clause-products : goal.returns-clause-products
returns-clause-products c = products_left

pub returns-clause-sums : goal.returns-clause-sums
returns-clause-sums c = sums_left
