-- The parsed trees without addresses.
use Rattle.std.specs.Prelude.{ℕ, ℤ, ◌+◌, ◌≤◌, Bool, List, slice_range}
use Rattle.stm_terms.specs.declared.expr.Op.{Op}
use Rattle.stm_terms.specs.declared.raw.Span.{Span}
use Rattle.stm_terms.specs.declared.raw.RawExpr.{RawExpr}
use Rattle.stm_terms.specs.declared.raw.RawExpr.TheVariants as E
use Rattle.stm_terms.specs.declared.raw.RawAction.{RawAction}
use Rattle.stm_terms.specs.declared.raw.RawAction.TheVariants as A

-- an expression, with the place where each part begins; a name is its span
pub data RawTerm : Type 0 where
  int : ℤ → ℕ → RawTerm
  truth : Bool → ℕ → RawTerm
  unit : ℕ → RawTerm
  name : Span → RawTerm
  bin : Op → RawTerm → RawTerm → RawTerm

-- an action, with the places of the parts that may be at fault
pub data RawAct : Type 0 where
  return : RawTerm → RawAct
  read : RawTerm → RawAct
  write : RawTerm → RawTerm → RawAct
  make : RawTerm → RawAct
  retry : RawAct
  throw : RawTerm → RawAct
  if_else : RawTerm → RawAct → ℕ → RawAct → RawAct
  or_else : RawAct → ℕ → RawAct → RawAct
  bind : Span → ℕ → RawAct → RawAct → RawAct
  let_in : Span → RawTerm → RawAct → RawAct
  seq : RawAct → RawAct → RawAct
  catch : RawAct → Span → ℕ → RawAct → RawAct

-- the expression of a parsed tree in memory
abbrev pub raw_term_of : RawExpr → RawTerm
raw_term_of (E.Int n at) = int n at
raw_term_of (E.Bool b at) = truth b at
raw_term_of (E.Unit at) = unit at
raw_term_of (E.Name span) = name span
raw_term_of (E.Bin' op p a q b) = bin op (raw_term_of a) (raw_term_of b)

-- the action of a parsed tree in memory
abbrev pub raw_act_of : RawAction → RawAct
raw_act_of (A.Return e) = return (raw_term_of e)
raw_act_of (A.Read e) = read (raw_term_of e)
raw_act_of (A.Write r e) = write (raw_term_of r) (raw_term_of e)
raw_act_of (A.Make e) = make (raw_term_of e)
raw_act_of A.Retry = retry
raw_act_of (A.Throw e) = throw (raw_term_of e)
raw_act_of (A.If' e p a at q b) = if_else (raw_term_of e) (raw_act_of a) at (raw_act_of b)
raw_act_of (A.OrElse' p a at q b) = or_else (raw_act_of a) at (raw_act_of b)
raw_act_of (A.Bind' span at p a q b) = bind span at (raw_act_of a) (raw_act_of b)
raw_act_of (A.Let' span e p b) = let_in span (raw_term_of e) (raw_act_of b)
raw_act_of (A.Seq' p a q b) = seq (raw_act_of a) (raw_act_of b)
raw_act_of (A.Catch' p a span at q b) = catch (raw_act_of a) span at (raw_act_of b)

-- where an expression begins
abbrev pub place : RawTerm → ℕ
place (int n at) = at
place (truth b at) = at
place (unit at) = at
place (name span) = span.start
place (bin op a b) = place a

-- what stands at a span of a text
abbrev pub text_at : List ℕ → Span → List ℕ
text_at text span = slice_range text span.start span.end

-- the ends of a span lie in order within n bytes
abbrev pub IsSpan : ℕ → ℕ → ℕ → Type 0
IsSpan n from to = (from ≤ to) × (to ≤ n)

-- each name of an expression is a span of a text of n bytes
abbrev pub NamesWithin : ℕ → RawTerm → Type 0
NamesWithin n (int k at) = Unit {0}
NamesWithin n (truth b at) = Unit {0}
NamesWithin n (unit at) = Unit {0}
NamesWithin n (name span) = IsSpan n span.start span.end
NamesWithin n (bin op a b) = NamesWithin n a × NamesWithin n b

-- each name of an action is a span of a text of n bytes
abbrev pub SpansWithin : ℕ → RawAct → Type 0
SpansWithin n (return e) = NamesWithin n e
SpansWithin n (read e) = NamesWithin n e
SpansWithin n (write r e) = NamesWithin n r × NamesWithin n e
SpansWithin n (make e) = NamesWithin n e
SpansWithin n retry = Unit {0}
SpansWithin n (throw e) = NamesWithin n e
SpansWithin n (if_else e a at b) = NamesWithin n e × SpansWithin n a × SpansWithin n b
SpansWithin n (or_else a at b) = SpansWithin n a × SpansWithin n b
SpansWithin n (bind span at a b) = IsSpan n span.start span.end × SpansWithin n a × SpansWithin n b
SpansWithin n (let_in span e b) = IsSpan n span.start span.end × NamesWithin n e × SpansWithin n b
SpansWithin n (seq a b) = SpansWithin n a × SpansWithin n b
SpansWithin n (catch a span at b) = SpansWithin n a × IsSpan n span.start span.end × SpansWithin n b

-- how many actions there are
abbrev pub actions : RawAct → ℕ
actions (if_else e a at b) = 1 + actions a + actions b
actions (or_else a at b) = 1 + actions a + actions b
actions (bind span at a b) = 1 + actions a + actions b
actions (let_in span e b) = 1 + actions b
actions (seq a b) = 1 + actions a + actions b
actions (catch a span at b) = 1 + actions a + actions b
actions a = 1
