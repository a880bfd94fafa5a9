-- The check of a parsed block: the tree with its names resolved and its type, or the first fault from left to right.
use Rattle.std.specs.Prelude.{ℕ, Bool, true, List, ◌∷◌, Option, Some, None, Result, Ok, Err, nat_le, if◌then◌else◌}
use Rattle.stm_terms.specs.declared.expr.Op.{Op}
use Rattle.stm_terms.specs.declared.expr.Op.TheVariants.{Mul, Add, Sub, Eq, Lt, Le, And, Or}
use Rattle.stm_terms.specs.declared.kinds.Ty.{Ty}
use Rattle.stm_terms.specs.declared.values.Value.TheVariants as value
use Rattle.stm_terms.specs.Ast.{Term, lit, local, global, bin, Act, return, read, write, make, retry, throw, if_else, or_else, bind, let_in, seq, catch}
use Rattle.stm_terms.specs.Limits.{most_refs}
use Rattle.stm_terms.specs.ParsedAst as raw
use Rattle.stm_terms.specs.Typing.{int_ty, bool_ty, unit_ty, var_ty, deref_ty, same_ty, ActionType, Gives, Any, join_types}
use Rattle.stm_store.specs.Naming.{Named, variable_named}
use Rattle.stm_check.specs.Scopes.{Locals, innermost}
use Rattle.stm_check.specs.declared.fault.TypeFault.{TypeFault}
use Rattle.stm_check.specs.declared.fault.TypeFault.TheVariants.{Unknown, Mismatch, NotAVariable, Untyped, TypeTooDeep}

-- the type that both operands must have, if that is fixed
abbrev pub wanted : Op → Option Ty
wanted Mul = Some int_ty
wanted Add = Some int_ty
wanted Sub = Some int_ty
wanted Lt = Some int_ty
wanted Le = Some int_ty
wanted And = Some bool_ty
wanted Or = Some bool_ty
wanted Eq = None

-- the type of what an operator gives
abbrev pub given : Op → Ty
given Mul = int_ty
given Add = int_ty
given Sub = int_ty
given Lt = bool_ty
given Le = bool_ty
given And = bool_ty
given Or = bool_ty
given Eq = bool_ty

-- whether an operand's type is the one that is wanted, if one is
abbrev pub as_wanted : Option Ty → Ty → Bool
as_wanted (Some w) t = same_ty t w
as_wanted None t = true

-- the type that the right operand must have: the one that is wanted, else that of the left
abbrev pub wanted_right : Option Ty → Ty → Ty
wanted_right (Some w) t = w
wanted_right None t = t

-- goes on with what was found
abbrev pub on_ok : {A B : Type 0} → Result A TypeFault → (A → Result B TypeFault) → Result B TypeFault
on_ok (Ok x) go = go x
on_ok (Err e) go = Err e

-- goes on if the test holds
abbrev pub unless : {B : Type 0} → Bool → TypeFault → Result B TypeFault → Result B TypeFault
unless b fault go = if b then go else Err fault

-- goes on with what is there
abbrev pub on_some : {A B : Type 0} → Option A → TypeFault → (A → Result B TypeFault) → Result B TypeFault
on_some (Some x) fault go = go x
on_some None fault go = Err fault

-- goes on with the type of what is bound
abbrev pub on_type : {B : Type 0} → ActionType → TypeFault → (Ty → Result B TypeFault) → Result B TypeFault
on_type (Gives t) fault go = go t
on_type Any fault go = Err fault

-- a name that is no local is a reference to a declared variable; a name of neither is unknown
abbrev pub declared_as : ℕ → Option (ℕ × Ty) → Result (Term × Ty) TypeFault
declared_as at (Some v) = Ok (global v.0, var_ty v.1)
declared_as at None = Err (Unknown at)

-- a name is the innermost local, else a declared variable
abbrev pub resolved : ℕ → Option (ℕ × Ty) → Option (ℕ × Ty) → Result (Term × Ty) TypeFault
resolved at (Some l) v = Ok (local l.0, l.1)
resolved at None v = declared_as at v

module _ (known : List Named) (text : List ℕ) where
  -- an expression: each operand, then the judgement on it
  abbrev pub checked_expr : Locals → raw.RawTerm → Result (Term × Ty) TypeFault
  checked_expr ls (raw.int n at) = Ok (lit (value.Int n), int_ty)
  checked_expr ls (raw.truth b at) = Ok (lit (value.Bool b), bool_ty)
  checked_expr ls (raw.unit at) = Ok (lit value.Unit, unit_ty)
  checked_expr ls (raw.name span) =
      resolved span.start (innermost (raw.text_at text span) ls) (variable_named (raw.text_at text span) known)
  checked_expr ls (raw.bin op a b) =
      on_ok (checked_expr ls a) (λ x. unless (as_wanted (wanted op) x.1) (Mismatch (raw.place a))
      (on_ok (checked_expr ls b) (λ y. unless (same_ty y.1 (wanted_right (wanted op) x.1)) (Mismatch (raw.place b))
      (Ok (bin op x.0 y.0, given op)))))

  -- an action: each part, then the judgement on it
  abbrev pub checked : Locals → raw.RawAct → Result (Act × ActionType) TypeFault
  checked ls (raw.return e) = on_ok (checked_expr ls e) (λ x. Ok (return x.0, Gives x.1))
  checked ls (raw.read e) =
      on_ok (checked_expr ls e) (λ x. on_some (deref_ty x.1) (NotAVariable (raw.place e)) (λ t. Ok (read x.0, Gives t)))
  checked ls (raw.write r e) =
      on_ok (checked_expr ls r) (λ x. on_some (deref_ty x.1) (NotAVariable (raw.place r))
      (λ t. on_ok (checked_expr ls e) (λ y. unless (same_ty y.1 t) (Mismatch (raw.place e))
      (Ok (write x.0 y.0, Gives unit_ty)))))
  checked ls (raw.make e) =
      on_ok (checked_expr ls e) (λ x. unless (nat_le x.1.refs most_refs) (TypeTooDeep (raw.place e))
      (Ok (make x.1 x.0, Gives (var_ty x.1))))
  checked ls raw.retry = Ok (retry, Any)
  checked ls (raw.throw e) =
      on_ok (checked_expr ls e) (λ x. unless (same_ty x.1 int_ty) (Mismatch (raw.place e)) (Ok (throw x.0, Any)))
  checked ls (raw.if_else e a at b) =
      on_ok (checked_expr ls e) (λ x. unless (same_ty x.1 bool_ty) (Mismatch (raw.place e))
      (on_ok (checked ls a) (λ y. on_ok (checked ls b) (λ z. on_some (join_types y.1 z.1) (Mismatch at)
      (λ r. Ok (if_else x.0 y.0 z.0, r))))))
  checked ls (raw.or_else a at b) =
      on_ok (checked ls a) (λ y. on_ok (checked ls b) (λ z. on_some (join_types y.1 z.1) (Mismatch at)
      (λ r. Ok (or_else y.0 z.0, r))))
  checked ls (raw.bind span at a b) =
      on_ok (checked ls a) (λ x. on_type x.1 (Untyped at)
      (λ t. on_ok (checked ((raw.text_at text span, t) ∷ ls) b) (λ y. Ok (bind x.0 y.0, y.1))))
  checked ls (raw.let_in span e b) =
      on_ok (checked_expr ls e) (λ x. on_ok (checked ((raw.text_at text span, x.1) ∷ ls) b) (λ y. Ok (let_in x.0 y.0, y.1)))
  checked ls (raw.seq a b) = on_ok (checked ls a) (λ x. on_ok (checked ls b) (λ y. Ok (seq x.0 y.0, y.1)))
  checked ls (raw.catch a span at b) =
      on_ok (checked ls a) (λ y. on_ok (checked ((raw.text_at text span, int_ty) ∷ ls) b)
      (λ z. on_some (join_types y.1 z.1) (Mismatch at) (λ r. Ok (catch y.0 z.0, r))))
