use Rattle.stm_parse.proofs.GrammarLaws.{products_tightest, sums_tighter, comparisons_tighter, conjunctions_tighter}
use Rattle.stm_parse.proofs.laws.each_tier_binds_tighter_than_the_next.Goals as goal

pub returns-clause-products : goal.returns-clause-products
returns-clause-products c = products_tightest

pub returns-clause-sums : goal.returns-clause-sums
returns-clause-sums c = sums_tighter

pub returns-clause-comparisons : goal.returns-clause-comparisons
returns-clause-comparisons c = comparisons_tighter

pub returns-clause-conjunctions : goal.returns-clause-conjunctions
returns-clause-conjunctions c = conjunctions_tighter
