use Rattle.stm_parse.specs.Grammar.{IsBlock, IsDeclaration}
use Rattle.stm_parse.specs.Descent.{block_reader, declaration_reader}
use Rattle.stm_parse.specs.ExpectationFunction.{expectation_reader}
use Rattle.stm_parse.specs.Expectations.{IsExpectation}
use Rattle.stm_parse.specs.TypeFunction.{IsWholeType, type_reader}
use Rattle.stm_parse.proofs.Expectations.{good_expectation}
use Rattle.stm_parse.proofs.OneFault.{one_fault}
use Rattle.stm_parse.proofs.TypeAnswers.{good_whole_type}
use Rattle.stm_parse.proofs.TypeReaders.{good_declaration}
use Rattle.stm_parse.proofs.WholeTextRead.{good_block}
use Rattle.stm_parse.proofs.laws.at_most_one_fault.Goals as goal

pub returns-clause-block : goal.returns-clause-block
returns-clause-block c = one_fault block_reader IsBlock good_block

pub returns-clause-declaration : goal.returns-clause-declaration
returns-clause-declaration c = one_fault declaration_reader IsDeclaration good_declaration

pub returns-clause-expectation : goal.returns-clause-expectation
returns-clause-expectation c = one_fault expectation_reader IsExpectation good_expectation

pub returns-clause-ty : goal.returns-clause-ty
returns-clause-ty c = one_fault type_reader IsWholeType good_whole_type
