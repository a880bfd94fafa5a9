-- The reader of expectations is good, the names of their trees are names of the text, and the call is exact.
use Rattle.std.proofs.Common.{◌≡◌, ℕ, List, [], ◌∷◌, refl, ap, subst, arith, length, Ok, Err, ◌≢◌}
use Rattle.stm_terms.specs.ParsedAst.{IsSpan, NamesWithin}
use Rattle.stm_parse.specs.declared.token.Lexeme.{Lexeme}
use Rattle.stm_parse.specs.declared.token.Failure.{Failure}
use Rattle.stm_parse.specs.declared.fault.ParseFault.{ParseFault}
use Rattle.stm_parse.specs.declared.fault.ParseFault.TheVariants as fault
use Rattle.stm_parse.specs.Descent.{◌>>=◌, StopsAs, expect_name, init, whole}
use Rattle.stm_parse.specs.ExpectationFunction.{expectation_reader, expected_tree, expectation_result, parsed_expectation, ExpectationAnswersAreRight}
use Rattle.stm_parse.specs.Expectations.{ExpectationTree, IsExpectation, is_expectation, expectation_in}
use Rattle.stm_parse.specs.Faults.{Language, IsText}
use Rattle.stm_parse.specs.Grammar.{At, at, span_of, IsInit}
use Rattle.stm_terms.specs.ParsedBlock.{IsNameOf}
use Rattle.stm_parse.specs.NameTokens.{NamesOf}
use Rattle.stm_parse.specs.ParseResult.{LexesWithinLimits, IsEarly, fault_of_failure}
use Rattle.stm_parse.proofs.AnswersCorrect.{answer_right, ok_answer, stop_answer, early_answer}
use Rattle.stm_parse.proofs.CallsExact.{fails_through}
use Rattle.stm_parse.proofs.ReaderCorrect.{Good, good_same, good_chain, good_map, good_name, IsName, Any, Token, token}
use Rattle.stm_parse.proofs.ReaderPromises.{Then, then_, Mapped, mapped}
use Rattle.stm_parse.proofs.TreeNamesAndSize.{Named, named, kept_init}
use Rattle.stm_parse.proofs.TypeReaders.{good_init}

-- a name, and what reads what the variable of that name is expected to hold
abbrev Expecting : Language ExpectationTree
Expecting = Then (Token 0 IsName) (λ x. Mapped (λ e. record { name = span_of x; init = e }) IsInit)

to_expectation : (us : List At) (e : ExpectationTree) → Expecting us e → IsExpectation us e
to_expectation us e (then_ _ _ _ (token x p) (mapped _ i g)) = is_expectation p g

from_expectation : (us : List At) (e : ExpectationTree) → IsExpectation us e → Expecting us e
from_expectation us e (is_expectation {x} {us = vs} {e = i} p g) = then_ (at 0 x ∷ []) vs x (token x p) (mapped vs i g)

pub good_expectation : (n : ℕ) → Good n expectation_reader IsExpectation Any
good_expectation n =
    good_same n expectation_reader Expecting IsExpectation Any to_expectation from_expectation
    (good_chain n expect_name (λ x s. init s >>= λ e. Ok (record { name = span_of x; init = e.0 }, e.1)) (Token 0 IsName) (λ x. Mapped (λ e. record { name = span_of x; init = e }) IsInit) Any Any (good_name 0 (omega arith) n)
    (λ x. good_map n init (λ e. record { name = span_of x; init = e }) IsInit Any (good_init n))
    (λ x us t rest h f. tt))

pub kept_expectation : (text : List ℕ) (ls : List Lexeme) (t : ExpectationTree) → IsText IsExpectation ls t → NamesOf text ls → IsSpan (length text) t.name.start t.name.end × IsNameOf text t.name.start t.name.end × NamesWithin (length text) t.init
kept_expectation text ls t h n = of h.0 t h.1 (named text h.0 (subst (NamesOf text) h.3 n))
  where
    of : (us : List At) (t : ExpectationTree) → IsExpectation us t → Named text us → IsSpan (length text) t.name.start t.name.end × IsNameOf text t.name.start t.name.end × NamesWithin (length text) t.init
    of us t (is_expectation {us = vs} p i) k =
        let m = k.0 p in
        (m.0, m.1, kept_init text vs _ i k.1)

pub early_expectation : (text : List ℕ) (e : ParseFault) → IsEarly text e → e ≢ fault.NoMemory → parsed_expectation text ≡ Err e
unfolding parsed_expectation expected_tree
early_expectation text e h = fails_through (expectation_result text) (λ e. refl) e _ (early_answer expectation_reader text e h)

pub ok_expectation : (text : List ℕ) (ls : List Lexeme) → LexesWithinLimits text ls → (t : ExpectationTree) → whole expectation_reader ls ≡ Ok t → parsed_expectation text ≡ Ok (expectation_in text t)
unfolding parsed_expectation expected_tree
ok_expectation text ls f t e = ap (expectation_result text) (ok_answer expectation_reader text ls f t e)

pub stop_expectation : (text : List ℕ) (ls : List Lexeme) → LexesWithinLimits text ls → (e : Failure) → StopsAs e (whole expectation_reader ls) → fault_of_failure ls e ≢ fault.NoMemory → parsed_expectation text ≡ Err (fault_of_failure ls e)
unfolding parsed_expectation expected_tree
stop_expectation text ls f e h = fails_through (expectation_result text) (λ e. refl) (fault_of_failure ls e) _ (stop_answer expectation_reader text ls f e h)

pub expectations_are_right : ExpectationAnswersAreRight
unfolding expected_tree
expectations_are_right text = answer_right expectation_reader IsExpectation good_expectation text
