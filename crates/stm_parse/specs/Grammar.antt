-- The grammar, by cases on its productions.
use Rattle.std.specs.Prelude.{◌≡◌, ℕ, zero, suc, ◌+◌, ◌-◌, ◌≤◌, List, [], ◌∷◌, ◌++◌, true, false, Option, Some, None, pos, neg_ℤ, ⊤}
use Rattle.stm_terms.specs.declared.expr.Op.{Op}
use Rattle.stm_terms.specs.declared.expr.Op.TheVariants as op
use Rattle.stm_terms.specs.declared.kinds.Ty.{Ty}
use Rattle.stm_terms.specs.declared.kinds.Base.TheVariants as base
use Rattle.stm_terms.specs.declared.raw.Span.{Span}
use Rattle.stm_terms.specs.Limits.{most_refs}
use Rattle.stm_terms.specs.ParsedAst.{RawTerm, int, truth, unit, name, bin, RawAct, return, read, write, make, retry, throw, if_else, or_else, bind, let_in, seq, catch}
use Rattle.stm_parse.specs.declared.token.Mark.{Mark}
use Rattle.stm_parse.specs.declared.token.Mark.TheVariants as mark
use Rattle.stm_parse.specs.declared.token.TokenKind.{TokenKind}
use Rattle.stm_parse.specs.declared.token.TokenKind.TheVariants as sym
use Rattle.stm_parse.specs.declared.token.Lexeme.{Lexeme}
use Rattle.stm_parse.specs.declared.cursor.Grouping.{Grouping}
use Rattle.stm_parse.specs.declared.cursor.Grouping.TheVariants as grouping
use Rattle.stm_parse.specs.Terminals.{IsMark}

-- a token in its place in a text: how many constructs are open there, which `TVar` of a type it is, and how far a literal
-- that ends with it lies from 0 or -1
pub record At : Type 0 where
  pub depth : ℕ
  pub refs : ℕ
  pub reach : ℕ
  pub lexeme : Lexeme

-- a token with d constructs open, neither a `TVar` nor a number
abbrev pub at : ℕ → Lexeme → At
at d x = record { depth = d; refs = 0; reach = 0; lexeme = x }

-- the k-th `TVar` of a type, with d constructs open
abbrev pub at_ref : ℕ → ℕ → Lexeme → At
at_ref d k x = record { depth = d; refs = k; reach = 0; lexeme = x }

-- a number with d constructs open, whose literal lies n from 0 or -1
abbrev pub at_number : ℕ → ℕ → Lexeme → At
at_number d n x = record { depth = d; refs = 0; reach = n; lexeme = x }

-- where a token is in the text
abbrev pub span_of : Lexeme → Span
span_of x = record { start = x.start; end = x.end }

-- the tokens without their places
abbrev pub erase : List At → List Lexeme
erase [] = []
erase (x ∷ xs) = x.lexeme ∷ erase xs

-- an operator binds the tighter the lower its tier
abbrev pub operator_mark : Mark → Option (ℕ × Op)
operator_mark mark.Star = Some (0, op.Mul)
operator_mark mark.Plus = Some (1, op.Add)
operator_mark mark.Minus = Some (1, op.Sub)
operator_mark mark.EqEq = Some (2, op.Eq)
operator_mark mark.Lt = Some (2, op.Lt)
operator_mark mark.Le = Some (2, op.Le)
operator_mark mark.AndAnd = Some (3, op.And)
operator_mark mark.OrOr = Some (4, op.Or)
operator_mark _ = None

-- the tier and the operator that a token writes
abbrev pub operator_of : TokenKind → Option (ℕ × Op)
operator_of (sym.Mark m) = operator_mark m
operator_of (sym.Number n) = None
operator_of sym.Name = None
operator_of sym.Other = None

-- how the operators of a tier group
abbrev pub grouping_of : ℕ → Grouping
grouping_of zero = grouping.ToLeft
grouping_of (suc zero) = grouping.ToLeft
grouping_of (suc (suc zero)) = grouping.NotChained
grouping_of (suc (suc (suc k))) = grouping.ToRight

-- the tier of whole expressions
abbrev pub widest : ℕ
widest = 5

mutual
  -- an operand, with d constructs open around it
  pub data IsAtom : ℕ → List At → RawTerm → Type 0 where
    -- NUMBER
    is_number : {d n : ℕ} {x : Lexeme} → x.sym ≡ sym.Number n → IsAtom d (at_number d n x ∷ []) (int (pos n) x.start)
    -- "(" "-" NUMBER ")"
    is_negative : {d n : ℕ} {x y z w : Lexeme}
        → IsMark mark.LParen x → IsMark mark.Minus y → z.sym ≡ sym.Number n → IsMark mark.RParen w
        → IsAtom d (at (suc d) x ∷ at (suc d) y ∷ at_number (suc d) (n - 1) z ∷ at d w ∷ []) (int (neg_ℤ (pos n)) x.start)
    -- "True" | "False"
    is_true : {d : ℕ} {x : Lexeme} → IsMark mark.True x → IsAtom d (at d x ∷ []) (truth true x.start)
    is_false : {d : ℕ} {x : Lexeme} → IsMark mark.False x → IsAtom d (at d x ∷ []) (truth false x.start)
    -- "(" ")"
    is_unit : {d : ℕ} {x w : Lexeme}
        → IsMark mark.LParen x → IsMark mark.RParen w
        → IsAtom d (at (suc d) x ∷ at d w ∷ []) (unit x.start)
    -- NAME
    is_name : {d : ℕ} {x : Lexeme} → x.sym ≡ sym.Name → IsAtom d (at d x ∷ []) (name (span_of x))
    -- "(" expression ")"
    is_bracketed : {d : ℕ} {x : Lexeme} (w : Lexeme) {us : List At} {e : RawTerm}
        → IsMark mark.LParen x → IsExpression widest (suc d) us e → IsMark mark.RParen w
        → IsAtom d (at (suc d) x ∷ (us ++ (at d w ∷ []))) e

  -- an expression whose operators outside of brackets are of tiers below k
  pub data IsExpression : ℕ → ℕ → List At → RawTerm → Type 0 where
    is_atom : {d : ℕ} {us : List At} {e : RawTerm} → IsAtom d us e → IsExpression zero d us e
    is_tier : {k d : ℕ} {us vs : List At} {a e : RawTerm}
        → IsExpression k d us a → IsTail k d a vs e
        → IsExpression (suc k) d (us ++ vs) e

  -- what may follow the first operand a of the operators of tier k, and the whole expression
  pub data IsTail : ℕ → ℕ → RawTerm → List At → RawTerm → Type 0 where
    no_more : {k d : ℕ} {a : RawTerm} → IsTail k d a [] a
    -- { operator operand }, grouped to the left
    to_left : {k d : ℕ} {o : Op} {x : Lexeme} {us vs : List At} {a b e : RawTerm}
        → grouping_of k ≡ grouping.ToLeft → operator_of x.sym ≡ Some (k, o) → IsExpression k d us b
        → IsTail k d (bin o a b) vs e
        → IsTail k d a (at d x ∷ (us ++ vs)) e
    -- [ operator operand ]
    not_chained : {k d : ℕ} {o : Op} {x : Lexeme} {us : List At} {a b : RawTerm}
        → grouping_of k ≡ grouping.NotChained → operator_of x.sym ≡ Some (k, o) → IsExpression k d us b
        → IsTail k d a (at d x ∷ us) (bin o a b)
    -- [ operator expression ], where the expression may have more operators of this tier
    to_right : {k d : ℕ} {o : Op} {x : Lexeme} {us : List At} {a b : RawTerm}
        → grouping_of k ≡ grouping.ToRight → operator_of x.sym ≡ Some (k, o) → IsExpression (suc k) d us b
        → IsTail k d a (at d x ∷ us) (bin o a b)

-- an action with the place of its first word
abbrev pub Placed : Type 0
Placed = RawAct × ℕ

mutual
  -- an action, with d constructs open around it
  pub data IsAction : ℕ → List At → Placed → Type 0 where
    -- "do" "{" body "}"
    is_do : {d : ℕ} {x y : Lexeme} (w : Lexeme) {us : List At} {a : RawAct}
        → IsMark mark.Do x → IsMark mark.LBrace y → IsBody (suc d) us a → IsMark mark.RBrace w
        → IsAction d (at (suc d) x ∷ at (suc d) y ∷ (us ++ (at d w ∷ []))) (a, x.start)
    -- "if" expression "then" action "else" action
    is_if : {d : ℕ} {x : Lexeme} (y z : Lexeme) {us vs ws : List At} {e : RawTerm} {a b : Placed}
        → IsMark mark.If x → IsExpression widest (suc d) us e → IsMark mark.Then y → IsAction (suc d) vs a
        → IsMark mark.Else z → IsAction (suc d) ws b
        → IsAction d (at (suc d) x ∷ (us ++ (at (suc d) y ∷ (vs ++ (at (suc d) z ∷ ws))))) (if_else e a.0 b.1 b.0, x.start)
    -- "orElse" "(" action ")" "(" action ")"
    is_or_else : {d : ℕ} {x : Lexeme} {us vs : List At} {a b : Placed}
        → IsMark mark.OrElse x → IsParen (suc (suc d)) (suc d) us a → IsParen (suc (suc d)) d vs b
        → IsAction d (at (suc d) x ∷ (us ++ vs)) (or_else a.0 b.1 b.0, x.start)
    -- "catch" "(" action ")" NAME "(" action ")"
    is_catch : {d : ℕ} {x : Lexeme} (y : Lexeme) {us vs : List At} {a b : Placed}
        → IsMark mark.Catch x → IsParen (suc (suc d)) (suc d) us a → y.sym ≡ sym.Name → IsParen (suc (suc d)) d vs b
        → IsAction d (at (suc d) x ∷ (us ++ (at (suc d) y ∷ vs))) (catch a.0 (span_of y) b.1 b.0, x.start)
    -- "return" operand
    is_return : {d : ℕ} {x : Lexeme} {us : List At} {e : RawTerm}
        → IsMark mark.Return x → IsAtom d us e
        → IsAction d (at d x ∷ us) (return e, x.start)
    -- "readTVar" operand
    is_read : {d : ℕ} {x : Lexeme} {us : List At} {e : RawTerm}
        → IsMark mark.ReadTVar x → IsAtom d us e
        → IsAction d (at d x ∷ us) (read e, x.start)
    -- "writeTVar" operand operand
    is_write : {d : ℕ} {x : Lexeme} {us vs : List At} {r e : RawTerm}
        → IsMark mark.WriteTVar x → IsAtom d us r → IsAtom d vs e
        → IsAction d (at d x ∷ (us ++ vs)) (write r e, x.start)
    -- "newTVar" operand
    is_make : {d : ℕ} {x : Lexeme} {us : List At} {e : RawTerm}
        → IsMark mark.NewTVar x → IsAtom d us e
        → IsAction d (at d x ∷ us) (make e, x.start)
    -- "throw" operand
    is_throw : {d : ℕ} {x : Lexeme} {us : List At} {e : RawTerm}
        → IsMark mark.Throw x → IsAtom d us e
        → IsAction d (at d x ∷ us) (throw e, x.start)
    -- "retry"
    is_retry : {d : ℕ} {x : Lexeme} → IsMark mark.Retry x → IsAction d (at d x ∷ []) (retry, x.start)
    -- "(" action ")"
    is_brackets : {d : ℕ} {us : List At} {a : Placed} → IsParen (suc d) d us a → IsAction d us a

  -- "(" action ")", with this many constructs open inside and after it
  pub data IsParen : ℕ → ℕ → List At → Placed → Type 0 where
    is_paren : {d e : ℕ} {x : Lexeme} (w : Lexeme) {us : List At} {a : Placed}
        → IsMark mark.LParen x → IsAction d us a → IsMark mark.RParen w
        → IsParen d e (at d x ∷ (us ++ (at e w ∷ []))) a

  -- statements and a last action
  pub data IsBody : ℕ → List At → RawAct → Type 0 where
    -- NAME "<-" action ";" body
    is_bind : {d : ℕ} {x y : Lexeme} (w : Lexeme) {us vs : List At} {a : Placed} {b : RawAct}
        → x.sym ≡ sym.Name → IsMark mark.Arrow y → IsAction d us a → IsMark mark.Semicolon w → IsBody d vs b
        → IsBody d (at d x ∷ at d y ∷ (us ++ (at d w ∷ vs))) (bind (span_of x) a.1 a.0 b)
    -- "let" NAME "=" expression ";" body
    is_let : {d : ℕ} {x y z : Lexeme} (w : Lexeme) {us vs : List At} {e : RawTerm} {b : RawAct}
        → IsMark mark.Let x → y.sym ≡ sym.Name → IsMark mark.Equals z → IsExpression widest d us e
        → IsMark mark.Semicolon w → IsBody d vs b
        → IsBody d (at d x ∷ at d y ∷ at d z ∷ (us ++ (at d w ∷ vs))) (let_in (span_of y) e b)
    -- action ";" body
    is_seq : {d : ℕ} (w : Lexeme) {us vs : List At} {a : Placed} {b : RawAct}
        → IsAction d us a → IsMark mark.Semicolon w → IsBody d vs b
        → IsBody d (us ++ (at d w ∷ vs)) (seq a.0 b)
    -- action
    is_last : {d : ℕ} {us : List At} {a : Placed} → IsAction d us a → IsBody d us a.0

-- a block is an action
abbrev pub IsBlock : List At → RawAct → Type 0
IsBlock us t = (p : ℕ) × IsAction zero us (t, p)

mutual
  -- a type with k `TVar` around it
  pub data IsType : ℕ → ℕ → List At → Ty → Type 0 where
    -- "TVar" bare type
    is_var : {k d : ℕ} {x : Lexeme} {us : List At} {t : Ty}
        → IsMark mark.TVar x → IsBareType (suc k) d us t
        → IsType k d (at_ref d (suc k) x ∷ us) (record { base = t.base; refs = t.refs + 1 })
    is_bare : {k d : ℕ} {us : List At} {t : Ty} → IsBareType k d us t → IsType k d us t

  -- a type that needs no brackets after `TVar`
  pub data IsBareType : ℕ → ℕ → List At → Ty → Type 0 where
    -- "Int" | "Bool"
    is_int : {k d : ℕ} {x : Lexeme} → IsMark mark.Int x → IsBareType k d (at d x ∷ []) (record { base = base.Int; refs = 0 })
    is_bool : {k d : ℕ} {x : Lexeme} → IsMark mark.Bool x → IsBareType k d (at d x ∷ []) (record { base = base.Bool; refs = 0 })
    -- "(" ")"
    is_unit_type : {k d : ℕ} {x w : Lexeme}
        → IsMark mark.LParen x → IsMark mark.RParen w
        → IsBareType k d (at (suc d) x ∷ at d w ∷ []) (record { base = base.Unit; refs = 0 })
    -- "(" type ")"
    is_bracketed_type : {k d : ℕ} {x : Lexeme} (w : Lexeme) {us : List At} {t : Ty}
        → IsMark mark.LParen x → IsType k (suc d) us t → IsMark mark.RParen w
        → IsBareType k d (at (suc d) x ∷ (us ++ (at d w ∷ []))) t

-- NUMBER | "(" "-" NUMBER ")" | "True" | "False" | "(" ")" | NAME
pub data IsInit : List At → RawTerm → Type 0 where
  is_number_init : {n : ℕ} {x : Lexeme} → x.sym ≡ sym.Number n → IsInit (at_number 0 n x ∷ []) (int (pos n) x.start)
  is_negative_init : {n : ℕ} {x y z w : Lexeme}
      → IsMark mark.LParen x → IsMark mark.Minus y → z.sym ≡ sym.Number n → IsMark mark.RParen w
      → IsInit (at 1 x ∷ at 1 y ∷ at_number 1 (n - 1) z ∷ at 0 w ∷ []) (int (neg_ℤ (pos n)) x.start)
  is_true_init : {x : Lexeme} → IsMark mark.True x → IsInit (at 0 x ∷ []) (truth true x.start)
  is_false_init : {x : Lexeme} → IsMark mark.False x → IsInit (at 0 x ∷ []) (truth false x.start)
  is_unit_init : {x w : Lexeme} → IsMark mark.LParen x → IsMark mark.RParen w → IsInit (at 1 x ∷ at 0 w ∷ []) (unit x.start)
  is_name_init : {x : Lexeme} → x.sym ≡ sym.Name → IsInit (at 0 x ∷ []) (name (span_of x))

-- a declared name by its span, its type, and what it holds at first, as an operand
pub record DeclarationTree : Type 0 where
  pub name : Span
  pub ty : Ty
  pub init : RawTerm

-- NAME ":" type "=" init
pub data IsDeclaration : List At → DeclarationTree → Type 0 where
  is_declaration : {x y : Lexeme} (z : Lexeme) {us vs : List At} {t : Ty} {e : RawTerm}
      → x.sym ≡ sym.Name → IsMark mark.Colon y → IsType 0 0 us t → IsMark mark.Equals z → IsInit vs e
      → IsDeclaration (at 0 x ∷ at 0 y ∷ (us ++ (at 0 z ∷ vs))) (record { name = span_of x; ty = t; init = e })

-- the greatest depth
abbrev pub deepest : ℕ
deepest = 64

-- the greatest number, and how far the least lies from -1
unfoldable pub greatest : ℕ
greatest = 9223372036854775807

-- a token within the limits
abbrev pub IsAllowed : At → Type 0
IsAllowed u = (u.depth ≤ deepest) × (u.refs ≤ most_refs) × (u.reach ≤ greatest)

-- each token is within the limits
abbrev pub WithinLimits : List At → Type 0
WithinLimits [] = ⊤
WithinLimits (u ∷ us) = IsAllowed u × WithinLimits us
