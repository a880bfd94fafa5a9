use Rattle.stm_parse.specs.Expectations.{IsExpectation}
use Rattle.stm_parse.specs.Grammar.{IsBlock, IsDeclaration}
use Rattle.stm_parse.specs.TypeFunction.{IsWholeType}
use Rattle.stm_source.proofs.OneAnswer.{one_answer}
use Rattle.stm_source.proofs.laws.texts_have_one_answer.Goals as goal

pub returns-clause-block : goal.returns-clause-block
returns-clause-block c = record {
  right = c.answers_are_right.ensures.blocks;
  only = one_answer IsBlock c.texts_are_unambiguous.ensures.block c.at_most_one_fault.ensures.block c.trees_have_no_fault.ensures.block
      c.tokenization_is_unique.ensures;
}

pub returns-clause-declaration : goal.returns-clause-declaration
returns-clause-declaration c = record {
  right = c.answers_are_right.ensures.declarations;
  only = one_answer IsDeclaration c.texts_are_unambiguous.ensures.declaration c.at_most_one_fault.ensures.declaration c.trees_have_no_fault.ensures.declaration
      c.tokenization_is_unique.ensures;
}

pub returns-clause-expectation : goal.returns-clause-expectation
returns-clause-expectation c = record {
  right = c.answers_are_right.ensures.expectations;
  only = one_answer IsExpectation c.texts_are_unambiguous.ensures.expectation c.at_most_one_fault.ensures.expectation c.trees_have_no_fault.ensures.expectation
      c.tokenization_is_unique.ensures;
}

pub returns-clause-ty : goal.returns-clause-ty
returns-clause-ty c = record {
  right = c.answers_are_right.ensures.types;
  only = one_answer IsWholeType c.texts_are_unambiguous.ensures.ty c.at_most_one_fault.ensures.ty c.trees_have_no_fault.ensures.ty
      c.tokenization_is_unique.ensures;
}
