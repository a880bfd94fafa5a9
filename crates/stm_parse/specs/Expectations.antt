-- Expectations: their grammar, and what callers see of them.
use Rattle.std.specs.Prelude.{◌≡◌, ℕ, List, ◌∷◌, string_bytes}
use Rattle.stm_terms.specs.declared.raw.Span.{Span}
use Rattle.stm_terms.specs.ParsedAst.{text_at, RawTerm, raw_term_of}
use Rattle.stm_parse.specs.declared.token.TokenKind.TheVariants as sym
use Rattle.stm_parse.specs.declared.token.Lexeme.{Lexeme}
use Rattle.stm_parse.specs.declared.expectation.Expectation.{Expectation}
use Rattle.stm_parse.specs.declared.expectation.RawExpectation.{RawExpectation}
use Rattle.stm_parse.specs.Grammar.{At, at, span_of, IsInit}
use Rattle.stm_parse.specs.Declarations.{ParsedInit, parsed_initial, init_of}

-- a variable's name by its span, and what it is expected to hold, as an operand
pub record ExpectationTree : Type 0 where
  pub name : Span
  pub init : RawTerm

-- NAME init
pub data IsExpectation : List At → ExpectationTree → Type 0 where
  is_expectation : {x : Lexeme} {us : List At} {e : RawTerm}
      → x.sym ≡ sym.Name → IsInit us e
      → IsExpectation (at 0 x ∷ us) (record { name = span_of x; init = e })

-- a tree of the descent without addresses
abbrev pub expectation_tree_of : RawExpectation → ExpectationTree
expectation_tree_of d = record { name = d.name; init = raw_term_of d.init }

-- an expectation as callers see it: a variable's name, and a value or the variable of a name
pub record ParsedExpectation : Type 0 where
  pub name : List ℕ
  pub value : ParsedInit

-- an expectation without addresses
abbrev pub expectation_of : Expectation → ParsedExpectation
expectation_of d = record { name = string_bytes d.name; value = parsed_initial d.value }

-- the expectation that a tree stands for in a text
abbrev pub expectation_in : List ℕ → ExpectationTree → ParsedExpectation
expectation_in text t = record { name = text_at text t.name; value = init_of text t.init }
