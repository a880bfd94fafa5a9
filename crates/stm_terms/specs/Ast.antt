-- The trees without addresses.
use Rattle.std.specs.Prelude.{ℕ, Bool, true, false, ◌||◌}
use Rattle.stm_terms.specs.declared.kinds.Ty.{Ty}
use Rattle.stm_terms.specs.declared.values.Value.{Value}
use Rattle.stm_terms.specs.declared.expr.Op.{Op}
use Rattle.stm_terms.specs.declared.expr.Expr.{Expr}
use Rattle.stm_terms.specs.declared.expr.Expr.TheVariants.{Lit, Local, Global, Bin'}
use Rattle.stm_terms.specs.declared.action.Action.{Action}
use Rattle.stm_terms.specs.declared.action.Action.TheVariants.{Return, Read, Write, Make, Retry, Throw, If', OrElse', Bind', Let', Seq', Catch'}

-- an expression
pub data Term : Type 0 where
  lit : Value → Term
  local : ℕ → Term
  global : ℕ → Term
  bin : Op → Term → Term → Term

-- an action; `bind` and `let_in` add a local to the rest, `catch` to the handler
pub data Act : Type 0 where
  return : Term → Act
  read : Term → Act
  write : Term → Term → Act
  make : Ty → Term → Act
  retry : Act
  throw : Term → Act
  if_else : Term → Act → Act → Act
  or_else : Act → Act → Act
  bind : Act → Act → Act
  let_in : Term → Act → Act
  seq : Act → Act → Act
  catch : Act → Act → Act

-- the expression of a tree in memory
abbrev pub term_of : Expr → Term
term_of (Lit v) = lit v
term_of (Local i) = local i
term_of (Global i) = global i
term_of (Bin' op p a q b) = bin op (term_of a) (term_of b)

-- the action of a tree in memory
abbrev pub act_of : Action → Act
act_of (Return e) = return (term_of e)
act_of (Read e) = read (term_of e)
act_of (Write r e) = write (term_of r) (term_of e)
act_of (Make t e) = make t (term_of e)
act_of Retry = retry
act_of (Throw e) = throw (term_of e)
act_of (If' e p a q b) = if_else (term_of e) (act_of a) (act_of b)
act_of (OrElse' p a q b) = or_else (act_of a) (act_of b)
act_of (Bind' p a q b) = bind (act_of a) (act_of b)
act_of (Let' e p b) = let_in (term_of e) (act_of b)
act_of (Seq' p a q b) = seq (act_of a) (act_of b)
act_of (Catch' p a q b) = catch (act_of a) (act_of b)

-- whether some part of the action is a `catch`
abbrev pub has_catch : Act → Bool
has_catch (if_else e a b) = has_catch a || has_catch b
has_catch (or_else a b) = has_catch a || has_catch b
has_catch (bind a b) = has_catch a || has_catch b
has_catch (let_in e b) = has_catch b
has_catch (seq a b) = has_catch a || has_catch b
has_catch (catch a b) = true
has_catch a = false
