-- The laws of operators.
use Rattle.std.proofs.Common.{◌≡◌, ℕ, zero, suc, ◌+◌, ◌-◌, ◌<◌, List, [], ◌∷◌, ◌++◌, append-nil, refl, subst, arith, Some, Ok}
use Rattle.std.proofs.lemmas.List.Elements.{All-nil, All-cons, All-from_recursion}
use Rattle.std.specs.Prelude.{All}
use Rattle.stm_terms.specs.declared.expr.Op.{Op}
use Rattle.stm_terms.specs.declared.expr.Op.TheVariants as op
use Rattle.stm_terms.specs.declared.raw.Span.{Span}
use Rattle.stm_terms.specs.ParsedAst.{RawTerm, name, bin, RawAct, return}
use Rattle.stm_parse.specs.declared.token.Mark.{Mark}
use Rattle.stm_parse.specs.declared.token.Mark.TheVariants as mark
use Rattle.stm_parse.specs.declared.token.TokenKind.TheVariants as tok
use Rattle.stm_parse.specs.declared.token.Lexeme.{Lexeme}
use Rattle.stm_parse.specs.declared.cursor.Grouping.{Grouping}
use Rattle.stm_parse.specs.declared.cursor.Grouping.TheVariants as grouping
use Rattle.stm_parse.specs.Grammar.{At, at, operator_mark, operator_of, grouping_of, widest, is_name, is_bracketed, IsExpression, is_atom, is_tier, IsTail, no_more, to_left, not_chained, to_right, is_return, IsBlock}
use Rattle.stm_parse.specs.Faults.{IsText}
use Rattle.stm_parse.specs.Descent.{block_reader, whole, action_at, inside_act, atom_at, one_level_inside, tier_with, step_from, tail_from, tails}
use Rattle.stm_parse.specs.Laws.{lexeme, two_operators, Signed, products, sums, comparisons, conjunctions, disjunctions, ToLeft, ToRight, NotChained, Tighter, ProductsGroupToTheLeft, SumsGroupToTheLeft, ComparisonsAreNotChained, ConjunctionsGroupToTheRight, DisjunctionsGroupToTheRight, ProductsBindTightest, SumsBindTighter, ComparisonsBindTighter, ConjunctionsBindTighter}
use Rattle.stm_parse.proofs.WholeTextRead.{good_block, only}

-- an operand, as an expression of tier k
atom : (k d : ℕ) (a : Span) → IsExpression k d (at d (lexeme tok.Name a) ∷ []) (name a)
atom zero d a = is_atom (is_name refl)
atom (suc k) d a = is_tier (atom k d a) no_more

-- an expression of a tier is one of each wider tier
rise : (n j k d : ℕ) (us : List At) (e : RawTerm) → n + j ≡ k → IsExpression j d us e → IsExpression k d us e
rise zero j k d us e q h = let p : j ≡ k = omega arith in subst (λ i. IsExpression i d us e) p h
rise (suc n) j k d us e q h = rise n (suc j) k d us e (omega arith) (subst (λ l. IsExpression (suc j) d l e) (append-nil us) (is_tier h no_more))

-- one operator
one : (k d : ℕ) (x : Lexeme) (o : Op) (us : List At) (a b : RawTerm) → operator_of x.sym ≡ Some (k, o) → IsExpression k d us b → IsTail k d a (at d x ∷ us) (bin o a b)
one k d x o us a b q h = by (grouping_of k) refl
  where
    by : (g : Grouping) → grouping_of k ≡ g → IsTail k d a (at d x ∷ us) (bin o a b)
    by grouping.ToLeft g = subst (λ l. IsTail k d a (at d x ∷ l) (bin o a b)) (append-nil us) (to_left g q h no_more)
    by grouping.NotChained g = not_chained g q h
    by grouping.ToRight g = to_right g q (subst (λ l. IsExpression (suc k) d l b) (append-nil us) (is_tier h no_more))

in_brackets : (m n : Mark) (place : ℕ → Span) (e : RawTerm) → IsExpression widest 1 (at 1 (lexeme tok.Name (place 2)) ∷ at 1 (lexeme (tok.Mark m) (place 3)) ∷ at 1 (lexeme tok.Name (place 4)) ∷ at 1 (lexeme (tok.Mark n) (place 5)) ∷ at 1 (lexeme tok.Name (place 6)) ∷ []) e → IsText IsBlock (two_operators m n place) (return e)
in_brackets m n place e h =
    (_, ((place 0).start, is_return {x = lexeme (tok.Mark mark.Return) (place 0)} refl (is_bracketed {x = lexeme (tok.Mark mark.LParen) (place 1)} (lexeme (tok.Mark mark.RParen) (place 7)) refl h refl)), ((omega arith, omega arith, omega arith), ((omega arith, omega arith, omega arith), ((omega arith, omega arith, omega arith), ((omega arith, omega arith, omega arith), ((omega arith, omega arith, omega arith), ((omega arith, omega arith, omega arith), ((omega arith, omega arith, omega arith), ((omega arith, omega arith, omega arith), tt)))))))), refl)

-- the operator is of tier k
abbrev IsOf : ℕ → Signed → Type 0
IsOf k x = operator_mark x.0 ≡ Some (k, x.1)

to_the_left : (k : ℕ) (x y : Signed) → k < widest → grouping_of k ≡ grouping.ToLeft → IsOf k x → IsOf k y → ToLeft x y
to_the_left k x y l g p q place =
    in_brackets x.0 y.0 place _
    (rise (4 - k) (suc k) widest 1 _ _ (omega arith) (is_tier (atom k 1 (place 2)) (to_left g p (atom k 1 (place 4)) (to_left g q (atom k 1 (place 6)) no_more))))

to_the_right : (k : ℕ) (x y : Signed) → k < widest → grouping_of k ≡ grouping.ToRight → IsOf k x → IsOf k y → ToRight x y
to_the_right k x y l g p q place =
    in_brackets x.0 y.0 place _
    (rise (4 - k) (suc k) widest 1 _ _ (omega arith) (is_tier (atom k 1 (place 2)) (to_right g p (is_tier (atom k 1 (place 4)) (to_right g q (is_tier (atom k 1 (place 6)) no_more))))))

-- two operands of an operator of tier k, as an expression of a wider tier
pair : (k n : ℕ) (x : Signed) (a o b : Span) → k < n → IsOf k x → IsExpression n 1 (at 1 (lexeme tok.Name a) ∷ at 1 (lexeme (tok.Mark x.0) o) ∷ at 1 (lexeme tok.Name b) ∷ []) (bin x.1 (name a) (name b))
pair k n x a o b l p =
    rise (n - suc k) (suc k) n 1 _ _ (omega arith) (is_tier (atom k 1 a) (one k 1 (lexeme (tok.Mark x.0) o) x.1 (at 1 (lexeme tok.Name b) ∷ []) (name a) (name b) p (atom k 1 b)))

tighter : (k n : ℕ) (x y : Signed) → k < n → n < widest → IsOf k x → IsOf n y → Tighter x y
tighter k n x y l m p q = (left, right)
  where
    left : ToLeft x y
    left place =
        in_brackets x.0 y.0 place _
        (rise (4 - n) (suc n) widest 1 _ _ (omega arith) (is_tier (pair k n x (place 2) (place 3) (place 4) l p) (one n 1 (lexeme (tok.Mark y.0) (place 5)) y.1 (at 1 (lexeme tok.Name (place 6)) ∷ []) (bin x.1 (name (place 2)) (name (place 4))) (name (place 6)) q (atom n 1 (place 6)))))

    right : ToRight y x
    right place =
        in_brackets y.0 x.0 place _
        (rise (4 - n) (suc n) widest 1 _ _ (omega arith) (is_tier (atom n 1 (place 2)) (one n 1 (lexeme (tok.Mark y.0) (place 3)) y.1 (at 1 (lexeme tok.Name (place 4)) ∷ at 1 (lexeme (tok.Mark x.0) (place 5)) ∷ at 1 (lexeme tok.Name (place 6)) ∷ []) (name (place 2)) (bin x.1 (name (place 4)) (name (place 6))) q (pair k n x (place 4) (place 5) (place 6) l p))))

-- two signs are not chained, where the descent stops at the second
unless_read : (x y : Signed) → ((place : ℕ → Span) (t : RawAct) → whole block_reader (two_operators x.0 y.0 place) ≡ Ok t → ⊥) → NotChained x y
unless_read x y stops place t h = stops place t (only block_reader IsBlock good_block (two_operators x.0 y.0 place) t h)

-- `==` first
equal_first : All (NotChained (mark.EqEq, op.Eq)) comparisons
unfolding action_at inside_act atom_at one_level_inside tier_with step_from tail_from tails
equal_first = All-from_recursion (NotChained (mark.EqEq, op.Eq)) comparisons (unless_read (mark.EqEq, op.Eq) (mark.EqEq, op.Eq) (λ place t e. cc), (unless_read (mark.EqEq, op.Eq) (mark.Lt, op.Lt) (λ place t e. cc), (unless_read (mark.EqEq, op.Eq) (mark.Le, op.Le) (λ place t e. cc), tt)))

-- `<` first
below_first : All (NotChained (mark.Lt, op.Lt)) comparisons
unfolding action_at inside_act atom_at one_level_inside tier_with step_from tail_from tails
below_first = All-from_recursion (NotChained (mark.Lt, op.Lt)) comparisons (unless_read (mark.Lt, op.Lt) (mark.EqEq, op.Eq) (λ place t e. cc), (unless_read (mark.Lt, op.Lt) (mark.Lt, op.Lt) (λ place t e. cc), (unless_read (mark.Lt, op.Lt) (mark.Le, op.Le) (λ place t e. cc), tt)))

-- `<=` first
at_most_first : All (NotChained (mark.Le, op.Le)) comparisons
unfolding action_at inside_act atom_at one_level_inside tier_with step_from tail_from tails
at_most_first = All-from_recursion (NotChained (mark.Le, op.Le)) comparisons (unless_read (mark.Le, op.Le) (mark.EqEq, op.Eq) (λ place t e. cc), (unless_read (mark.Le, op.Le) (mark.Lt, op.Lt) (λ place t e. cc), (unless_read (mark.Le, op.Le) (mark.Le, op.Le) (λ place t e. cc), tt)))

pub comparisons_apart : ComparisonsAreNotChained
comparisons_apart = All-from_recursion (λ x. All (NotChained x) comparisons) comparisons (equal_first, (below_first, (at_most_first, tt)))

pub products_left : ProductsGroupToTheLeft
products_left = All-from_recursion (λ x. All (ToLeft x) products) products (All-from_recursion (ToLeft (mark.Star, op.Mul)) products (to_the_left 0 (mark.Star, op.Mul) (mark.Star, op.Mul) (omega arith) refl refl refl, tt), tt)

sum_left : (x : Signed) → IsOf 1 x → All (ToLeft x) sums
sum_left x p = All-from_recursion (ToLeft x) sums (to_the_left 1 x (mark.Plus, op.Add) (omega arith) refl p refl, (to_the_left 1 x (mark.Minus, op.Sub) (omega arith) refl p refl, tt))

pub sums_left : SumsGroupToTheLeft
sums_left = All-from_recursion (λ x. All (ToLeft x) sums) sums (sum_left (mark.Plus, op.Add) refl, (sum_left (mark.Minus, op.Sub) refl, tt))

pub conjunctions_right : ConjunctionsGroupToTheRight
conjunctions_right = All-from_recursion (λ x. All (ToRight x) conjunctions) conjunctions (All-from_recursion (ToRight (mark.AndAnd, op.And)) conjunctions (to_the_right 3 (mark.AndAnd, op.And) (mark.AndAnd, op.And) (omega arith) refl refl refl, tt), tt)

pub disjunctions_right : DisjunctionsGroupToTheRight
disjunctions_right = All-from_recursion (λ x. All (ToRight x) disjunctions) disjunctions (All-from_recursion (ToRight (mark.OrOr, op.Or)) disjunctions (to_the_right 4 (mark.OrOr, op.Or) (mark.OrOr, op.Or) (omega arith) refl refl refl, tt), tt)

abbrev TighterThan : List Signed → Signed → Type 0
TighterThan ys x = All (Tighter x) ys

than_disjunctions : (k : ℕ) (x : Signed) → k < 4 → IsOf k x → TighterThan disjunctions x
than_disjunctions k x l p = All-cons (Tighter x) (mark.OrOr, op.Or) [] (tighter k 4 x (mark.OrOr, op.Or) l (omega arith) p refl) (All-nil (Tighter x))

than_conditions : (k : ℕ) (x : Signed) → k < 3 → IsOf k x → TighterThan (conjunctions ++ disjunctions) x
than_conditions k x l p = All-cons (Tighter x) (mark.AndAnd, op.And) disjunctions (tighter k 3 x (mark.AndAnd, op.And) l (omega arith) p refl) (than_disjunctions k x (omega arith) p)

than_comparisons : (k : ℕ) (x : Signed) → k < 2 → IsOf k x → TighterThan (comparisons ++ conjunctions ++ disjunctions) x
than_comparisons k x l p =
    All-cons (Tighter x) (mark.EqEq, op.Eq) ((mark.Lt, op.Lt) ∷ (mark.Le, op.Le) ∷ (conjunctions ++ disjunctions)) (tighter k 2 x (mark.EqEq, op.Eq) l (omega arith) p refl)
    (All-cons (Tighter x) (mark.Lt, op.Lt) ((mark.Le, op.Le) ∷ (conjunctions ++ disjunctions)) (tighter k 2 x (mark.Lt, op.Lt) l (omega arith) p refl)
    (All-cons (Tighter x) (mark.Le, op.Le) (conjunctions ++ disjunctions) (tighter k 2 x (mark.Le, op.Le) l (omega arith) p refl)
    (than_conditions k x (omega arith) p)))

than_sums : (k : ℕ) (x : Signed) → k < 1 → IsOf k x → TighterThan (sums ++ comparisons ++ conjunctions ++ disjunctions) x
than_sums k x l p =
    All-cons (Tighter x) (mark.Plus, op.Add) ((mark.Minus, op.Sub) ∷ (comparisons ++ conjunctions ++ disjunctions)) (tighter k 1 x (mark.Plus, op.Add) l (omega arith) p refl)
    (All-cons (Tighter x) (mark.Minus, op.Sub) (comparisons ++ conjunctions ++ disjunctions) (tighter k 1 x (mark.Minus, op.Sub) l (omega arith) p refl)
    (than_comparisons k x (omega arith) p))

pub products_tightest : ProductsBindTightest
products_tightest = All-from_recursion (TighterThan (sums ++ comparisons ++ conjunctions ++ disjunctions)) products (than_sums 0 (mark.Star, op.Mul) (omega arith) refl, tt)

pub sums_tighter : SumsBindTighter
sums_tighter = All-from_recursion (TighterThan (comparisons ++ conjunctions ++ disjunctions)) sums (than_comparisons 1 (mark.Plus, op.Add) (omega arith) refl, (than_comparisons 1 (mark.Minus, op.Sub) (omega arith) refl, tt))

pub comparisons_tighter : ComparisonsBindTighter
comparisons_tighter = All-from_recursion (TighterThan (conjunctions ++ disjunctions)) comparisons (than_conditions 2 (mark.EqEq, op.Eq) (omega arith) refl, (than_conditions 2 (mark.Lt, op.Lt) (omega arith) refl, (than_conditions 2 (mark.Le, op.Le) (omega arith) refl, tt)))

pub conjunctions_tighter : ConjunctionsBindTighter
conjunctions_tighter = All-from_recursion (TighterThan disjunctions) conjunctions (than_disjunctions 3 (mark.AndAnd, op.And) (omega arith) refl, tt)
