-- Laws of the grammar: each text has one tree or one fault, and operators group as in Haskell 2010.
use Rattle.std.specs.Prelude.{◌≡◌, ◌≢◌, ℕ, List, [], ◌∷◌, ◌++◌, All}
use Rattle.stm_terms.specs.declared.expr.Op.{Op}
use Rattle.stm_terms.specs.declared.expr.Op.TheVariants as op
use Rattle.stm_terms.specs.declared.kinds.Ty.{Ty}
use Rattle.stm_terms.specs.declared.raw.Span.{Span}
use Rattle.stm_terms.specs.ParsedAst.{name, bin, RawAct, return}
use Rattle.stm_parse.specs.declared.token.Mark.{Mark}
use Rattle.stm_parse.specs.declared.token.Mark.TheVariants as mark
use Rattle.stm_parse.specs.declared.token.TokenKind.{TokenKind}
use Rattle.stm_parse.specs.declared.token.TokenKind.TheVariants as tok
use Rattle.stm_parse.specs.declared.token.Lexeme.{Lexeme}
use Rattle.stm_parse.specs.declared.fault.ParseFault.{ParseFault}
use Rattle.stm_parse.specs.declared.fault.ParseFault.TheVariants.{NoMemory}
use Rattle.stm_parse.specs.Expectations.{ExpectationTree, IsExpectation}
use Rattle.stm_parse.specs.Grammar.{IsBlock, DeclarationTree, IsDeclaration}
use Rattle.stm_parse.specs.Faults.{Language, IsText}
use Rattle.stm_parse.specs.ParseResult.{IsTextOf, IsReported}
use Rattle.stm_parse.specs.TypeFunction.{IsWholeType}

-- tokens are a text of one block at most
abbrev pub BlocksAreUnambiguous : Type 0
BlocksAreUnambiguous =
    (ls : List Lexeme) (t u : RawAct) → IsText IsBlock ls t → IsText IsBlock ls u → t ≡ u

-- tokens are a text of one declaration at most
abbrev pub DeclarationsAreUnambiguous : Type 0
DeclarationsAreUnambiguous =
    (ls : List Lexeme) (t u : DeclarationTree) → IsText IsDeclaration ls t → IsText IsDeclaration ls u → t ≡ u

-- tokens are a text of one expectation at most
abbrev pub ExpectationsAreUnambiguous : Type 0
ExpectationsAreUnambiguous =
    (ls : List Lexeme) (t u : ExpectationTree) → IsText IsExpectation ls t → IsText IsExpectation ls u → t ≡ u

-- tokens are a text of one type at most
abbrev pub TypesAreUnambiguous : Type 0
TypesAreUnambiguous =
    (ls : List Lexeme) (t u : Ty) → IsText IsWholeType ls t → IsText IsWholeType ls u → t ≡ u

-- two faults that are reported of a text, neither of them an out-of-memory error, are one
abbrev pub AtMostOneFault : {A : Type 0} → Language A → Type 0
AtMostOneFault L = (text : List ℕ) (e f : ParseFault) → e ≢ NoMemory → f ≢ NoMemory → IsReported L text e → IsReported L text f → e ≡ f

-- of a text that has a tree no fault is reported but an out-of-memory error
abbrev pub HasNoFault : {A : Type 0} → Language A → Type 0
HasNoFault {A} L = (text : List ℕ) (t : A) (e : ParseFault) → IsTextOf L text t → IsReported L text e → e ≡ NoMemory

-- no two faults are reported of a text that is read as a block, out-of-memory errors apart
abbrev pub EachBlockFaultIsOne : Type 0
EachBlockFaultIsOne = AtMostOneFault IsBlock

-- no two faults are reported of a text that is read as a declaration, out-of-memory errors apart
abbrev pub EachDeclarationFaultIsOne : Type 0
EachDeclarationFaultIsOne = AtMostOneFault IsDeclaration

-- no two faults are reported of a text that is read as an expectation, out-of-memory errors apart
abbrev pub EachExpectationFaultIsOne : Type 0
EachExpectationFaultIsOne = AtMostOneFault IsExpectation

-- no two faults are reported of a text that is read as a type, out-of-memory errors apart
abbrev pub EachTypeFaultIsOne : Type 0
EachTypeFaultIsOne = AtMostOneFault IsWholeType

-- no fault is reported of the text of a block, an out-of-memory error apart
abbrev pub BlocksHaveNoFault : Type 0
BlocksHaveNoFault = HasNoFault IsBlock

-- no fault is reported of the text of a declaration, an out-of-memory error apart
abbrev pub DeclarationsHaveNoFault : Type 0
DeclarationsHaveNoFault = HasNoFault IsDeclaration

-- no fault is reported of the text of an expectation, an out-of-memory error apart
abbrev pub ExpectationsHaveNoFault : Type 0
ExpectationsHaveNoFault = HasNoFault IsExpectation

-- no fault is reported of the text of a type, an out-of-memory error apart
abbrev pub TypesHaveNoFault : Type 0
TypesHaveNoFault = HasNoFault IsWholeType

-- an operator with its sign
abbrev pub Signed : Type 0
Signed = Mark × Op

-- the operators as Haskell 2010 has them: infixl 7 *
abbrev pub products : List Signed
products = (mark.Star, op.Mul) ∷ []

-- infixl 6 +, -
abbrev pub sums : List Signed
sums = (mark.Plus, op.Add) ∷ (mark.Minus, op.Sub) ∷ []

-- infix 4 ==, <, <=
abbrev pub comparisons : List Signed
comparisons = (mark.EqEq, op.Eq) ∷ (mark.Lt, op.Lt) ∷ (mark.Le, op.Le) ∷ []

-- infixr 3 &&
abbrev pub conjunctions : List Signed
conjunctions = (mark.AndAnd, op.And) ∷ []

-- infixr 2 ||
abbrev pub disjunctions : List Signed
disjunctions = (mark.OrOr, op.Or) ∷ []

-- this holds of each of these with each of those
abbrev pub EachPair : (Signed → Signed → Type 0) → List Signed → List Signed → Type 0
EachPair P xs ys = All (λ x. All (P x) ys) xs

-- a token, by where it stands
abbrev pub lexeme : TokenKind → Span → Lexeme
lexeme s span = record { sym = s; start = span.start; end = span.end }

-- return ( a o b p c ), each token at its place, wherever that is
abbrev pub two_operators : Mark → Mark → (ℕ → Span) → List Lexeme
two_operators o p place =
    lexeme (tok.Mark mark.Return) (place 0) ∷ lexeme (tok.Mark mark.LParen) (place 1)
    ∷ lexeme tok.Name (place 2) ∷ lexeme (tok.Mark o) (place 3) ∷ lexeme tok.Name (place 4)
    ∷ lexeme (tok.Mark p) (place 5) ∷ lexeme tok.Name (place 6) ∷ lexeme (tok.Mark mark.RParen) (place 7) ∷ []

-- a o b p c is (a o b) p c
abbrev pub ToLeft : Signed → Signed → Type 0
ToLeft o p =
    (place : ℕ → Span)
    → IsText IsBlock (two_operators o.0 p.0 place)
    (return (bin p.1 (bin o.1 (name (place 2)) (name (place 4))) (name (place 6))))

-- a o b p c is a o (b p c)
abbrev pub ToRight : Signed → Signed → Type 0
ToRight o p =
    (place : ℕ → Span)
    → IsText IsBlock (two_operators o.0 p.0 place)
    (return (bin o.1 (name (place 2)) (bin p.1 (name (place 4)) (name (place 6)))))

-- a o b p c is no text
abbrev pub NotChained : Signed → Signed → Type 0
NotChained o p = (place : ℕ → Span) (t : RawAct) → IsText IsBlock (two_operators o.0 p.0 place) t → ⊥

-- a o b p c is (a o b) p c, and a p b o c is a p (b o c)
abbrev pub Tighter : Signed → Signed → Type 0
Tighter o p = ToLeft o p × ToRight p o

-- a * b * c is (a * b) * c
abbrev pub ProductsGroupToTheLeft : Type 0
ProductsGroupToTheLeft = EachPair ToLeft products products

-- a - b + c is (a - b) + c, and so for each two of + and -
abbrev pub SumsGroupToTheLeft : Type 0
SumsGroupToTheLeft = EachPair ToLeft sums sums

-- a == b < c is no text, and so for each two of ==, < and <=
abbrev pub ComparisonsAreNotChained : Type 0
ComparisonsAreNotChained = EachPair NotChained comparisons comparisons

-- a && b && c is a && (b && c)
abbrev pub ConjunctionsGroupToTheRight : Type 0
ConjunctionsGroupToTheRight = EachPair ToRight conjunctions conjunctions

-- a || b || c is a || (b || c)
abbrev pub DisjunctionsGroupToTheRight : Type 0
DisjunctionsGroupToTheRight = EachPair ToRight disjunctions disjunctions

-- * binds tighter than all other operators
abbrev pub ProductsBindTightest : Type 0
ProductsBindTightest = EachPair Tighter products (sums ++ comparisons ++ conjunctions ++ disjunctions)

-- + and - bind tighter than ==, <, <=, && and ||
abbrev pub SumsBindTighter : Type 0
SumsBindTighter = EachPair Tighter sums (comparisons ++ conjunctions ++ disjunctions)

-- ==, < and <= bind tighter than && and ||
abbrev pub ComparisonsBindTighter : Type 0
ComparisonsBindTighter = EachPair Tighter comparisons (conjunctions ++ disjunctions)

-- && binds tighter than ||
abbrev pub ConjunctionsBindTighter : Type 0
ConjunctionsBindTighter = EachPair Tighter conjunctions disjunctions
