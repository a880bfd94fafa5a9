use Rattle.stm_parse.proofs.GrammarLaws.{conjunctions_right, disjunctions_right}
use Rattle.stm_parse.proofs.laws.conditions_group_to_the_right.Goals as goal

pub returns-clause-both : goal.returns-clause-both
returns-clause-both c = conjunctions_right

pub returns-clause-either : goal.returns-clause-either
returns-clause-either c = disjunctions_right
