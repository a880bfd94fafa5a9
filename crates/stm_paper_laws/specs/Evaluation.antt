-- Values of closed expressions, which are those of `value`, and actions applied to values.
use Rattle.std.specs.Prelude.{◌≡◌, zero, suc, [], Option, Some, None, Ok, Err}
use Rattle.stm_terms.specs.declared.kinds.Ty.{Ty}
use Rattle.stm_terms.specs.declared.values.Value.{Value}
use Rattle.stm_terms.specs.declared.values.Value.TheVariants.{Int}
use Rattle.stm_terms.specs.declared.values.Fault.{Fault}
use Rattle.stm_terms.specs.declared.values.Fault.TheVariants.{Thrown}
use Rattle.stm_terms.specs.Ast.{Term, lit, local, global, bin, Act, return, read, write, make, retry, throw, if_else, or_else, bind, let_in, seq, catch}
use Rattle.stm_terms.specs.Value.{Answer, value}

infix 40 ◌⇓◌
infix 40 ◌⇑◌
-- a closed expression has this value
pub record ◌⇓◌ (e : Term) (v : Value) : Type 0 where
  pub value_is : value e [] ≡ Some (Ok v)

-- it has no value, but this fault
pub record ◌⇑◌ (e : Term) (f : Fault) : Type 0 where
  pub fault_is : value e [] ≡ Some (Err f)

-- what `throw` raises at an expression: the number that it has for a value, or its own fault
abbrev pub raised : Answer → Option Fault
raised (Some (Ok (Int n))) = Some (Thrown n)
raised (Some (Err f)) = Some f
raised a = None

abbrev pub Raises : Term → Fault → Type 0
Raises e f = raised (value e []) ≡ Some f

-- what an action needs next is the value of this expression
pub data Needs : Act → Term → Type 0 where
  of_return : {e : Term} → Needs (return e) e
  of_read : {e : Term} → Needs (read e) e
  of_write : {r e : Term} → Needs (write r e) r
  of_written : {r e : Term} {w : Value} → r ⇓ w → Needs (write r e) e
  of_make : {t : Ty} {e : Term} → Needs (make t e) e
  of_if : {e : Term} {M N : Act} → Needs (if_else e M N) e
  of_let : {e : Term} {M : Act} → Needs (let_in e M) e

-- an expression with a value in place of its first local
abbrev pub applied_term : Term → Value → Term
applied_term (lit w) v = lit w
applied_term (local zero) v = lit v
applied_term (local (suc i)) v = local i
applied_term (global i) v = global i
applied_term (bin op a b) v = bin op (applied_term a v) (applied_term b v)

-- an action applied to a value, which takes the place of its first local; those after it are one lower
abbrev pub applied_to : Act → Value → Act
applied_to (return e) v = return (applied_term e v)
applied_to (read e) v = read (applied_term e v)
applied_to (write r e) v = write (applied_term r v) (applied_term e v)
applied_to (make t e) v = make t (applied_term e v)
applied_to retry v = retry
applied_to (throw e) v = throw (applied_term e v)
applied_to (if_else e a b) v = if_else (applied_term e v) (applied_to a v) (applied_to b v)
applied_to (or_else a b) v = or_else (applied_to a v) (applied_to b v)
applied_to (bind a b) v = bind (applied_to a v) (applied_to b v)
applied_to (let_in e b) v = let_in (applied_term e v) (applied_to b v)
applied_to (seq a b) v = seq (applied_to a v) (applied_to b v)
applied_to (catch a b) v = catch (applied_to a v) (applied_to b v)
