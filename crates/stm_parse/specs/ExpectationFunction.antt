-- The one answer for a text that is read as an expectation, as a function. That it is right by the grammar is a law.
use Rattle.std.specs.Prelude.{ℕ, List, Result, Ok, Err}
use Rattle.stm_parse.specs.declared.fault.ParseFault.{ParseFault}
use Rattle.stm_parse.specs.Descent.{Reader, ◌>>=◌, expect_name, init}
use Rattle.stm_parse.specs.Expectations.{ExpectationTree, IsExpectation, ParsedExpectation, expectation_in}
use Rattle.stm_parse.specs.Grammar.{span_of}
use Rattle.stm_parse.specs.ParseFunction.{IsAnswer, answered}

-- a whole expectation
abbrev pub expectation_reader : Reader ExpectationTree
expectation_reader toks = do
  x ← expect_name toks
  e ← init x.1
  Ok (record { name = span_of x.0; init = e.0 }, e.1)

-- an expectation's tree, or the fault that is reported
unfoldable pub expected_tree : List ℕ → Result ExpectationTree ParseFault
expected_tree text = answered expectation_reader text

-- what a tree stands for in a text; a fault stays
abbrev pub expectation_result : List ℕ → Result ExpectationTree ParseFault → Result ParsedExpectation ParseFault
expectation_result text (Ok t) = Ok (expectation_in text t)
expectation_result text (Err e) = Err e

-- what is expected of a variable, or the fault that is reported
unfoldable pub parsed_expectation : List ℕ → Result ParsedExpectation ParseFault
parsed_expectation text = expectation_result text (expected_tree text)

-- the answer for each text is right by the grammar
abbrev pub ExpectationAnswersAreRight : Type 0
ExpectationAnswersAreRight = (text : List ℕ) → IsAnswer IsExpectation text (expected_tree text)
