-- What the descent returns for a list of tokens: a tree and the tokens after it, or the fault.
use Rattle.std.specs.Prelude.{◌≡◌, ℕ, zero, suc, ◌+◌, ◌-◌, List, [], ◌∷◌, length, Bool, true, false, nat_eq, nat_le, nat_lt, Option, Some, None, Result, Ok, Err, if◌then◌else◌, pos, neg_ℤ, ⊤}
use Rattle.stm_terms.specs.declared.raw.Span.{Span}
use Rattle.stm_terms.specs.declared.expr.Op.{Op}
use Rattle.stm_terms.specs.declared.kinds.Ty.{Ty}
use Rattle.stm_terms.specs.declared.kinds.Base.TheVariants as base
use Rattle.stm_terms.specs.ParsedAst.{RawTerm, int, truth, unit, name, bin, RawAct, return, read, write, make, retry, throw, if_else, or_else, bind, let_in, seq, catch}
use Rattle.stm_parse.specs.declared.token.Mark.{Mark}
use Rattle.stm_parse.specs.declared.token.Mark.TheVariants as mark
use Rattle.stm_parse.specs.declared.token.TokenKind.{TokenKind}
use Rattle.stm_parse.specs.declared.token.TokenKind.TheVariants as sym
use Rattle.stm_parse.specs.declared.token.Lexeme.{Lexeme}
use Rattle.stm_parse.specs.declared.token.ErrorKind.TheVariants as cause
use Rattle.stm_parse.specs.declared.token.Fault.{Fault}
use Rattle.stm_parse.specs.declared.token.Failure.{Failure}
use Rattle.stm_parse.specs.declared.token.Failure.TheVariants as stop
use Rattle.stm_parse.specs.declared.cursor.Grouping.{Grouping}
use Rattle.stm_parse.specs.declared.cursor.Grouping.TheVariants as grouping
use Rattle.stm_parse.specs.Terminals.{is_mark}
use Rattle.stm_terms.specs.Limits.{most_refs}
use Rattle.stm_parse.specs.Grammar.{operator_of, grouping_of, widest, Placed, DeclarationTree, deepest, greatest, span_of}

-- what was read with the tokens after it, or the first token at fault
abbrev pub Reading : Type 0 → Type 0
Reading A = Result (A × List Lexeme) Fault

-- what a part of the descent returns for the tokens from its place on
abbrev pub Reader : Type 0 → Type 0
Reader A = List Lexeme → Reading A

infixl 10 ◌>>=◌
-- goes on with what was read; a fault stays
abbrev pub ◌>>=◌ : {A B : Type 0} → Result A Fault → (A → Result B Fault) → Result B Fault
(Ok x) >>= f = f x
(Err e) >>= f = Err e

-- the code stops at the fault of a reading, or for lack of memory
abbrev pub StopsAs : {A : Type 0} → Failure → Result A Fault → Type 0
StopsAs stop.Memory reading = ⊤
StopsAs (stop.At f) reading = reading ≡ Err f

-- these tokens are left of a reading
abbrev pub Leaves : {A : Type 0} → List Lexeme → Reading A → Type 0
Leaves {A} rest reading = (a : A) × (reading ≡ Ok (a, rest))

-- no text goes on with the next token, or no text ends here
abbrev pub unexpected : List Lexeme → Fault
unexpected toks = record { cause = cause.Unexpected; left = length toks }

-- the next token is past the greatest depth, or is a `TVar` too many
abbrev pub too_deep : List Lexeme → Fault
too_deep toks = record { cause = cause.TooDeep; left = length toks }

-- the next token is a number whose literal is no Int
abbrev pub bad_number : List Lexeme → Fault
bad_number toks = record { cause = cause.BadNumber; left = length toks }

-- the token that is this mark
abbrev pub expect : Mark → Reader Lexeme
expect m [] = Err (unexpected [])
expect m (x ∷ rest) = if is_mark m x.sym then Ok (x, rest) else Err (unexpected (x ∷ rest))

-- the tokens after this mark, if it is the next
abbrev pub accept : Mark → List Lexeme → Option (List Lexeme)
accept m [] = None
accept m (x ∷ rest) = if is_mark m x.sym then Some rest else None

-- goes on after a mark that was accepted, else reads otherwise
abbrev pub or_accepted : {A : Type 0} → Option (List Lexeme) → (List Lexeme → Reading A) → Reading A → Reading A
or_accepted None go instead = instead
or_accepted (Some rest) go instead = go rest

-- whether a token is a name
abbrev pub is_name_kind : TokenKind → Bool
is_name_kind sym.Name = true
is_name_kind (sym.Mark m) = false
is_name_kind (sym.Number n) = false
is_name_kind sym.Other = false

-- the token that is a name
abbrev pub expect_name : Reader Lexeme
expect_name [] = Err (unexpected [])
expect_name (x ∷ rest) = if is_name_kind x.sym then Ok (x, rest) else Err (unexpected (x ∷ rest))

-- whether a literal so far from 0 or -1 is an Int
abbrev pub in_reach : ℕ → Bool
in_reach n = nat_le n greatest

-- after "(" and a minus at the place given: the number and ")"
abbrev pub close_literal : ℕ → ℕ → Reader RawTerm
close_literal n at toks = do
  close ← expect mark.RParen toks
  Ok (int (neg_ℤ (pos n)) at, close.1)

-- by the kind of the token after the minus, which has to be a number in reach
abbrev pub literal_of : ℕ → TokenKind → List Lexeme → List Lexeme → Reading RawTerm
literal_of at (sym.Number n) here rest = if in_reach (n - 1) then close_literal n at rest else Err (bad_number here)
literal_of at (sym.Mark m) here rest = Err (unexpected here)
literal_of at sym.Name here rest = Err (unexpected here)
literal_of at sym.Other here rest = Err (unexpected here)

-- after "(" at the place given and a minus: a number in reach and ")"
abbrev pub literal : ℕ → Reader RawTerm
literal at [] = Err (unexpected [])
literal at (y ∷ rest) = literal_of at y.sym (y ∷ rest) rest

-- after "(", where inner reads what is inside
abbrev pub closed : {A : Type 0} → Reader A → Reader A
closed inner toks = do
  e ← inner toks
  close ← expect mark.RParen e.1
  Ok (e.0, close.1)

-- after "(" at the place given
abbrev pub bracketed : Reader RawTerm → ℕ → Reader RawTerm
bracketed inner at toks =
    or_accepted (accept mark.RParen toks) (λ rest. Ok (unit at, rest))
    (or_accepted (accept mark.Minus toks) (literal at) (closed inner toks))

-- an operand of one token
abbrev pub short_marked : Mark → Lexeme → List Lexeme → Reading RawTerm
short_marked mark.True x rest = Ok (truth true x.start, rest)
short_marked mark.False x rest = Ok (truth false x.start, rest)
short_marked _ x rest = Err (unexpected (x ∷ rest))

-- an operand of one token, by the kind of the token: a number in reach, a name, or a word
abbrev pub short_of : TokenKind → Lexeme → List Lexeme → Reading RawTerm
short_of (sym.Number n) x rest = if in_reach n then Ok (int (pos n) x.start, rest) else Err (bad_number (x ∷ rest))
short_of sym.Name x rest = Ok (name (span_of x), rest)
short_of sym.Other x rest = Err (unexpected (x ∷ rest))
short_of (sym.Mark m) x rest = short_marked m x rest

-- one level deeper, if there is such a level
abbrev pub deeper : {L A : Type 0} → Option L → (L → Reading A) → List Lexeme → Reading A
deeper None go here = Err (too_deep here)
deeper (Some l) go here = go l

-- inner reads an expression one level deeper, if there is such a level
abbrev pub atom_with : Option (Reader RawTerm) → Reader RawTerm
atom_with inner [] = Err (unexpected [])
atom_with inner (x ∷ rest) =
    if is_mark mark.LParen x.sym then deeper inner (λ r. bracketed r x.start rest) (x ∷ rest)
    else short_of x.sym x rest

-- nothing may stand inside brackets but a literal
abbrev pub refuse : Reader RawTerm
refuse toks = Err (unexpected toks)

-- what a variable holds at first, or is expected to hold
abbrev pub init : Reader RawTerm
init = atom_with (Some refuse)

-- an operator and the tokens after it, if its tier is k
abbrev pub op_pick : ℕ → Option (ℕ × Op) → List Lexeme → Option (Op × List Lexeme)
op_pick k None rest = None
op_pick k (Some p) rest = if nat_eq p.0 k then Some (p.1, rest) else None

-- an operator of tier k and the tokens after it, if it is the next
abbrev pub op_next : ℕ → List Lexeme → Option (Op × List Lexeme)
op_next k [] = None
op_next k (x ∷ rest) = op_pick k (operator_of x.sym) rest

-- after an operator: next reads an operand, self an operand with more operators of the tier, go goes on after it
abbrev pub tail_by : Grouping → Reader RawTerm → Reader RawTerm → (RawTerm → Reader RawTerm) → RawTerm → Op → Reader RawTerm
tail_by grouping.ToLeft next self go left o rest = do
  b ← next rest
  go (bin o left b.0) b.1
tail_by grouping.NotChained next self go left o rest = do
  b ← next rest
  Ok (bin o left b.0, b.1)
tail_by grouping.ToRight next self go left o rest = do
  b ← self rest
  Ok (bin o left b.0, b.1)

-- after an operand: an operator of the tier and what comes after it, if one is the next
abbrev pub tail_turn : Grouping → Reader RawTerm → Reader RawTerm → (RawTerm → Reader RawTerm)
    → RawTerm → List Lexeme → Option (Op × List Lexeme) → Reading RawTerm
tail_turn g next self go left toks None = Ok (left, toks)
tail_turn g next self go left toks (Some p) = tail_by g next self go left p.0 p.1

-- as often as they come, at most as often as the clock says
unfoldable pub tails : ℕ → Grouping → ℕ → Reader RawTerm → RawTerm → Reader RawTerm
tails zero g k next left toks = Ok (left, toks)
tails (suc c) g k next left toks =
    tail_turn g next (λ s. next s >>= λ a. tails c g k next a.0 a.1) (tails c g k next) left toks (op_next k toks)

-- the tokens themselves are clock enough
unfoldable pub tail_from : Grouping → ℕ → Reader RawTerm → RawTerm → Reader RawTerm
tail_from g k next left toks = tails (length toks) g k next left toks

-- an operand, and the operators of the tier after it
unfoldable pub step_from : Grouping → ℕ → Reader RawTerm → Reader RawTerm
step_from g k next toks = do
  a ← next toks
  tail_from g k next a.0 a.1

-- an expression whose operators outside of brackets are of tiers below k, where atom reads an operand
unfoldable pub tier_with : ℕ → Reader RawTerm → Reader RawTerm
tier_with zero atom = atom
tier_with (suc k) atom = step_from (grouping_of k) k (tier_with k atom)

-- what reads an expression one level deeper than this many levels from the limit
unfoldable pub one_level_inside : ℕ → Option (Reader RawTerm)
one_level_inside zero = None
one_level_inside (suc m) = Some (tier_with widest (atom_with (one_level_inside m)))

-- an operand, with this many levels left
unfoldable pub atom_at : ℕ → Reader RawTerm
atom_at n = atom_with (one_level_inside n)

-- an expression whose operators outside of brackets are of tiers below k, with this many levels left
unfoldable pub tier_at : ℕ → ℕ → Reader RawTerm
tier_at k n = tier_with k (atom_at n)

-- what follows the first operand of the operators of tier k, with this many levels left
unfoldable pub tail_at : ℕ → ℕ → RawTerm → Reader RawTerm
tail_at k n = tail_from (grouping_of k) k (tier_at k n)

-- an operator with its tier, and the tokens after it
abbrev pub op_found : Option (ℕ × Op) → List Lexeme → Option (ℕ × Op × List Lexeme)
op_found None rest = None
op_found (Some p) rest = Some (p.0, p.1, rest)

-- the next operator with its tier, and the tokens after it
abbrev pub op_ahead : List Lexeme → Option (ℕ × Op × List Lexeme)
op_ahead [] = None
op_ahead (x ∷ rest) = op_found (operator_of x.sym) rest

-- what follows an operand of tiers below k: the operators of the next c tiers, with this many levels left
unfoldable pub climbs : ℕ → ℕ → ℕ → RawTerm → Reader RawTerm
climbs zero k n left toks = Ok (left, toks)
climbs (suc c) k n left toks = tail_at k n left toks >>= λ a. climbs c (suc k) n a.0 a.1

-- what follows an operand of tiers below k: the operators of tiers from k on and below width
unfoldable pub climb_at : ℕ → ℕ → ℕ → RawTerm → Reader RawTerm
climb_at k width n = climbs (width - k) k n

-- after an operator of tier k, by how the tier groups: its right side, and what follows both
abbrev pub climb_by : Grouping → ℕ → ℕ → ℕ → RawTerm → Op → Reader RawTerm
climb_by grouping.ToLeft k width n left o rest = do
  b ← tier_at k n rest
  climb_at k width n (bin o left b.0) b.1
climb_by grouping.NotChained k width n left o rest = do
  b ← tier_at k n rest
  climb_at (k + 1) width n (bin o left b.0) b.1
climb_by grouping.ToRight k width n left o rest = do
  b ← tier_at (k + 1) n rest
  climb_at (k + 1) width n (bin o left b.0) b.1

-- what reads one level deeper
pub record Level : Type 0 where
  pub expression : Reader RawTerm
  pub action : Reader Placed
  pub paren : Reader Placed
  pub body : Reader RawAct

-- "(" action ")"
abbrev pub paren_with : Option Level → Reader Placed
paren_with one [] = Err (unexpected [])
paren_with one (x ∷ rest) =
    if is_mark mark.LParen x.sym then deeper one (λ l. closed l.action rest) (x ∷ rest)
    else Err (unexpected (x ∷ rest))

-- after orElse at the place given
abbrev pub or_else_of : Reader Placed → ℕ → Reader Placed
or_else_of paren place toks = do
  a ← paren toks
  b ← paren a.1
  Ok ((or_else a.0.0 b.0.1 b.0.0, place), b.1)

-- after catch at the place given
abbrev pub catch_of : Reader Placed → ℕ → Reader Placed
catch_of paren place toks = do
  a ← paren toks
  x ← expect_name a.1
  b ← paren x.1
  Ok ((catch a.0.0 (span_of x.0) b.0.1 b.0.0, place), b.1)

-- after if at the place given
abbrev pub if_of : Reader RawTerm → Reader Placed → ℕ → Reader Placed
if_of expression action place toks = do
  e ← expression toks
  then_at ← expect mark.Then e.1
  a ← action then_at.1
  else_at ← expect mark.Else a.1
  b ← action else_at.1
  Ok ((if_else e.0 a.0.0 b.0.1 b.0.0, place), b.1)

-- after a name in a body: an arrow, an action, a semicolon, and what next reads
abbrev pub bound : Reader Placed → Reader RawAct → Span → Reader RawAct
bound action next span toks = do
  arrow ← expect mark.Arrow toks
  a ← action arrow.1
  semicolon ← expect mark.Semicolon a.1
  b ← next semicolon.1
  Ok (bind span a.0.1 a.0.0 b.0, b.1)

-- after let
abbrev pub let_bound : Reader RawTerm → Reader RawAct → Reader RawAct
let_bound expression next toks = do
  x ← expect_name toks
  equals ← expect mark.Equals x.1
  e ← expression equals.1
  semicolon ← expect mark.Semicolon e.1
  b ← next semicolon.1
  Ok (let_in (span_of x.0) e.0 b.0, b.1)

-- after an action of a body: the rest, if a semicolon was accepted, else the body ends
abbrev pub after_action : Reader RawAct → RawAct → List Lexeme → Option (List Lexeme) → Reading RawAct
after_action next a toks None = Ok (a, toks)
after_action next a toks (Some rest) = do
  b ← next rest
  Ok (seq a b.0, b.1)

-- an action, and what next reads after a semicolon
abbrev pub sequence : Reader Placed → Reader RawAct → Reader RawAct
sequence action next toks = do
  a ← action toks
  after_action next a.0.0 a.1 (accept mark.Semicolon a.1)

-- a body: a statement and what next reads after it, or the last action
abbrev pub body_turn : Reader RawTerm → Reader Placed → Reader RawAct → Reader RawAct
body_turn expression action next [] = Err (unexpected [])
body_turn expression action next (x ∷ rest) =
    if is_name_kind x.sym then bound action next (span_of x) rest
    else (if is_mark mark.Let x.sym then let_bound expression next rest
    else sequence action next (x ∷ rest))

-- statements and the last action, at most as many as the clock says
unfoldable pub bodies : ℕ → Reader RawTerm → Reader Placed → Reader RawAct
bodies zero expression action toks = Err (unexpected toks)
bodies (suc c) expression action toks = body_turn expression action (bodies c expression action) toks

-- statements and the last action, however many
unfoldable pub body_from : Reader RawTerm → Reader Placed → Reader RawAct
body_from expression action toks = bodies (length toks) expression action toks

-- after "do" at the place given
abbrev pub block : Reader RawAct → ℕ → Reader Placed
block body place toks = do
  start ← expect mark.LBrace toks
  b ← body start.1
  end ← expect mark.RBrace b.1
  Ok ((b.0, place), end.1)

-- a word and its operand
abbrev pub one_operand : Reader RawTerm → (RawTerm → RawAct) → ℕ → Reader Placed
one_operand atom f place toks = do
  e ← atom toks
  Ok ((f e.0, place), e.1)

-- after writeTVar at the place given: the variable and what is written
abbrev pub two_operands : Reader RawTerm → ℕ → Reader Placed
two_operands atom place toks = do
  r ← atom toks
  e ← atom r.1
  Ok ((write r.0 e.0, place), e.1)

-- by the first word, which opens no level
abbrev pub flat_marked : Reader RawTerm → Mark → Lexeme → List Lexeme → Reading Placed
flat_marked atom mark.Return x rest = one_operand atom return x.start rest
flat_marked atom mark.ReadTVar x rest = one_operand atom read x.start rest
flat_marked atom mark.NewTVar x rest = one_operand atom make x.start rest
flat_marked atom mark.Throw x rest = one_operand atom throw x.start rest
flat_marked atom mark.WriteTVar x rest = two_operands atom x.start rest
flat_marked atom mark.Retry x rest = Ok ((retry, x.start), rest)
flat_marked atom _ x rest = Err (unexpected (x ∷ rest))

-- an action that begins with this word, which opens no level
abbrev pub flat_action : Reader RawTerm → Mark → Reader Placed
flat_action atom m [] = Err (unexpected [])
flat_action atom m (x ∷ rest) = flat_marked atom m x rest

-- an action by its first word
abbrev pub action_marked : Reader RawTerm → Option Level → Mark → Lexeme → List Lexeme → Reading Placed
action_marked atom one mark.Do x rest = deeper one (λ l. block l.body x.start rest) (x ∷ rest)
action_marked atom one mark.If x rest = deeper one (λ l. if_of l.expression l.action x.start rest) (x ∷ rest)
action_marked atom one mark.OrElse x rest = deeper one (λ l. or_else_of l.paren x.start rest) (x ∷ rest)
action_marked atom one mark.Catch x rest = deeper one (λ l. catch_of l.paren x.start rest) (x ∷ rest)
action_marked atom one mark.LParen x rest = deeper one (λ l. closed l.action rest) (x ∷ rest)
action_marked atom one m x rest = flat_marked atom m x rest

-- an action by the kind of the first token, which has to be a word or a bracket
abbrev pub action_of : Reader RawTerm → Option Level → TokenKind → Lexeme → List Lexeme → Reading Placed
action_of atom one (sym.Mark m) x rest = action_marked atom one m x rest
action_of atom one (sym.Number n) x rest = Err (unexpected (x ∷ rest))
action_of atom one sym.Name x rest = Err (unexpected (x ∷ rest))
action_of atom one sym.Other x rest = Err (unexpected (x ∷ rest))

-- an action, if inner reads a level deeper and atom an operand
abbrev pub action_with : Reader RawTerm → Option Level → Reader Placed
action_with atom one [] = Err (unexpected [])
action_with atom one (x ∷ rest) = action_of atom one x.sym x rest

-- what reads one level deeper than this many levels from the limit
unfoldable pub inside_act : ℕ → Option Level
inside_act zero = None
inside_act (suc m) = Some (record {
  expression = tier_at widest m;
  action = action_with (atom_at m) (inside_act m);
  paren = paren_with (inside_act m);
  body = body_from (tier_at widest m) (action_with (atom_at m) (inside_act m));
})

-- an action, with this many levels left
unfoldable pub action_at : ℕ → Reader Placed
action_at n = action_with (atom_at n) (inside_act n)

-- "(" action ")", with this many levels left
unfoldable pub paren_at : ℕ → Reader Placed
paren_at n = paren_with (inside_act n)

-- statements and the last action, with this many levels left
unfoldable pub body_at : ℕ → Reader RawAct
body_at n = body_from (tier_at widest n) (action_at n)

-- what reads with this many levels left
abbrev pub level_at : ℕ → Level
level_at n = record { expression = tier_at widest n; action = action_at n; paren = paren_at n; body = body_at n }

-- a whole block
abbrev pub block_reader : Reader RawAct
block_reader toks = do
  a ← action_at deepest toks
  Ok (a.0.0, a.1)

-- the type of a reference to a variable of this type
abbrev pub tvar_type : Ty → Ty
tvar_type t = record { base = t.base; refs = t.refs + 1 }

-- after "(" in a type, where inner reads a type
abbrev pub bracketed_type : Reader Ty → Reader Ty
bracketed_type inner toks =
    or_accepted (accept mark.RParen toks) (λ rest. Ok (record { base = base.Unit; refs = 0 }, rest))
    (closed inner toks)

-- a type that needs no brackets after `TVar`, by its first mark
abbrev pub bare_marked : Option (Reader Ty) → Mark → Lexeme → List Lexeme → Reading Ty
bare_marked inner mark.Int x rest = Ok (record { base = base.Int; refs = 0 }, rest)
bare_marked inner mark.Bool x rest = Ok (record { base = base.Bool; refs = 0 }, rest)
bare_marked inner mark.LParen x rest = deeper inner (λ r. bracketed_type r rest) (x ∷ rest)
bare_marked inner _ x rest = Err (unexpected (x ∷ rest))

-- such a type by the kind of the first token, which has to be a mark
abbrev pub bare_of : Option (Reader Ty) → TokenKind → Lexeme → List Lexeme → Reading Ty
bare_of inner (sym.Mark m) x rest = bare_marked inner m x rest
bare_of inner (sym.Number n) x rest = Err (unexpected (x ∷ rest))
bare_of inner sym.Name x rest = Err (unexpected (x ∷ rest))
bare_of inner sym.Other x rest = Err (unexpected (x ∷ rest))

-- a type that needs no brackets after `TVar`, where inner reads a type one level deeper
abbrev pub bare_with : Option (Reader Ty) → Reader Ty
bare_with inner [] = Err (unexpected [])
bare_with inner (x ∷ rest) = bare_of inner x.sym x rest

-- after "TVar", where bare reads what is inside
abbrev pub var_of : Bool → Reader Ty → List Lexeme → List Lexeme → Reading Ty
var_of false bare here rest = Err (too_deep here)
var_of true bare here rest = do
  t ← bare rest
  Ok (tvar_type t.0, t.1)

-- a type with k TVar around it, where bare reads a type with this many around it that needs no brackets
abbrev pub type_with : ℕ → (ℕ → Reader Ty) → Reader Ty
type_with k bare toks = or_accepted (accept mark.TVar toks) (var_of (nat_lt k most_refs) (bare (suc k)) toks) (bare k toks)

-- what reads a type with k `TVar` around it one level deeper than this many levels from the limit
unfoldable pub inside_type : ℕ → ℕ → Option (Reader Ty)
inside_type zero k = None
inside_type (suc m) k = Some (type_with k (λ j. bare_with (inside_type m j)))

-- a type with k `TVar` around it that needs no brackets, with this many levels left
unfoldable pub bare_at : ℕ → ℕ → Reader Ty
bare_at n k = bare_with (inside_type n k)

-- a type with k `TVar` around it, with this many levels left
unfoldable pub type_at : ℕ → ℕ → Reader Ty
type_at n k = type_with k (bare_at n)

-- a whole declaration
abbrev pub declaration_reader : Reader DeclarationTree
declaration_reader toks = do
  x ← expect_name toks
  colon ← expect mark.Colon x.1
  t ← type_at deepest 0 colon.1
  equals ← expect mark.Equals t.1
  e ← init equals.1
  Ok (record { name = span_of x.0; ty = t.0; init = e.0 }, e.1)

-- nothing may follow
abbrev pub ended : {A : Type 0} → A → List Lexeme → Result A Fault
ended a [] = Ok a
ended a (x ∷ s) = Err (unexpected (x ∷ s))

-- all of the tokens
abbrev pub whole : {A : Type 0} → Reader A → List Lexeme → Result A Fault
whole r toks = do
  a ← r toks
  ended a.0 a.1
