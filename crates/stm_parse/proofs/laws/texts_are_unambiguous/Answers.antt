use Rattle.stm_parse.specs.Grammar.{IsBlock, IsDeclaration}
use Rattle.stm_parse.specs.Descent.{block_reader, declaration_reader}
use Rattle.stm_parse.specs.ExpectationFunction.{expectation_reader}
use Rattle.stm_parse.specs.Expectations.{IsExpectation}
use Rattle.stm_parse.specs.TypeFunction.{IsWholeType, type_reader}
use Rattle.stm_parse.proofs.Expectations.{good_expectation}
use Rattle.stm_parse.proofs.FaultReported.{one_tree}
use Rattle.stm_parse.proofs.TypeAnswers.{good_whole_type}
use Rattle.stm_parse.proofs.TypeReaders.{good_declaration}
use Rattle.stm_parse.proofs.WholeTextRead.{good_block}
use Rattle.stm_parse.proofs.laws.texts_are_unambiguous.Goals as goal

pub returns-clause-block : goal.returns-clause-block
returns-clause-block c = one_tree block_reader IsBlock good_block

pub returns-clause-declaration : goal.returns-clause-declaration
returns-clause-declaration c = one_tree declaration_reader IsDeclaration good_declaration

pub returns-clause-expectation : goal.returns-clause-expectation
returns-clause-expectation c = one_tree expectation_reader IsExpectation good_expectation

pub returns-clause-ty : goal.returns-clause-ty
returns-clause-ty c = one_tree type_reader IsWholeType good_whole_type
