use Rattle.stm_parse.proofs.CallsExact.{blocks_are_right, declarations_are_right}
use Rattle.stm_parse.proofs.Expectations.{expectations_are_right}
use Rattle.stm_parse.proofs.TypeAnswers.{types_are_right}
use Rattle.stm_parse.proofs.laws.answers_are_right.Goals as goal

pub returns-clause-blocks : goal.returns-clause-blocks
returns-clause-blocks c = blocks_are_right

pub returns-clause-declarations : goal.returns-clause-declarations
returns-clause-declarations c = declarations_are_right

pub returns-clause-expectations : goal.returns-clause-expectations
returns-clause-expectations c = expectations_are_right

pub returns-clause-types : goal.returns-clause-types
returns-clause-types c = types_are_right
