-- The check as the code walks it: with what it looks up in one place, and noting variables as it goes.
use Rattle.std.specs.Prelude.{◌≡◌, ℕ, ◌+◌, ◌≤◌, ◌^◌, List, Option, Result, length, IfOk, IfSome}
use Rattle.std.specs.Str.{IsAscii}
use Rattle.stm_terms.specs.declared.kinds.Ty.{Ty}
use Rattle.stm_terms.specs.Ast.{Term, Act}
use Rattle.stm_terms.specs.Limits.{most_refs}
use Rattle.stm_terms.specs.ParsedAst as raw
use Rattle.stm_terms.specs.Typing.{ActionType, result_type, named_in, named, record_uses}
use Rattle.stm_terms.specs.UnlessNoMemory.{AnswersUnless}
use Rattle.stm_check.specs.declared.fault.TypeFault.{TypeFault}
use Rattle.stm_check.specs.declared.fault.TypeFault.TheVariants.{NoMemory}
use Rattle.stm_check.specs.declared.checker.Checker.{Checker}
use Rattle.stm_check.specs.Scopes.{scope, ScopeHasFewRefs, ScopeIsConsistent}
use Rattle.stm_check.specs.CheckFunction.{checked_expr, checked}
use Rattle.stm_store.specs.Naming.{known_kinds}

-- the names of an expression can be looked up
abbrev pub CanLookUp : Checker → raw.RawTerm → Type 0
CanLookUp checker e =
    IsAscii checker.text.now × raw.NamesWithin (length checker.text.now) e
    × ScopeIsConsistent checker.locals.now × ScopeHasFewRefs (scope checker.locals.now)

-- and those of an action, whose locals have numbers below 2 ^ 32
abbrev pub CanCheck : Checker → raw.RawAct → Type 0
CanCheck checker a =
    IsAscii checker.text.now × raw.SpansWithin (length checker.text.now) a
    × (length (scope checker.locals.now) + raw.actions a ≤ 2 ^ 32)
    × ScopeIsConsistent checker.locals.now × ScopeHasFewRefs (scope checker.locals.now)

-- what the check of an expression finds, by the names that the checker can look up
abbrev pub expr_found : Checker → raw.RawTerm → Result (Term × Ty) TypeFault
expr_found checker e = checked_expr checker.known.now checker.text.now (scope checker.locals.now) e

-- what the check of an action finds, by the same names
abbrev pub act_found : Checker → raw.RawAct → Result (Act × ActionType) TypeFault
act_found checker a = checked checker.known.now checker.text.now (scope checker.locals.now) a

-- the noted variables, with those of an expression after those from before
abbrev pub recorded_expr : Checker → Term → List (ℕ × Ty) → List (ℕ × Ty)
recorded_expr checker e uses = record_uses (known_kinds checker.known.now) (named_in e) uses

-- the noted variables, with those of an action after those from before
abbrev pub recorded_act : Checker → Act → List (ℕ × Ty) → List (ℕ × Ty)
recorded_act checker a uses = record_uses (known_kinds checker.known.now) (named a) uses

-- a type has at most one `TVar` more than that of what a variable holds, if it has a type
abbrev pub HasFewRefs : Option Ty → Type 0
HasFewRefs o = IfSome o (λ t. t.refs ≤ most_refs + 1)

-- the check of an expression, seen by view: what it returns, which variables it notes, and how deep its type is
pub record ChecksExpr {X : Type 0} (checker : Checker) (e : raw.RawTerm) (view : X → Term)
    (result : Result (X × Ty) TypeFault) (before after : List (ℕ × Ty)) : Type 0 where
  pub says : AnswersUnless NoMemory (λ r. (view r.0, r.1)) result (expr_found checker e)
  pub uses : IfOk result (λ r. after ≡ recorded_expr checker (view r.0) before)
  pub low : IfOk result (λ r. r.1.refs ≤ most_refs + 1)

-- the check of an action, seen by view: what it returns, which variables it notes, and how deep the type of its result is
pub record ChecksAction {X : Type 0} (checker : Checker) (a : raw.RawAct) (view : X → Act)
    (result : Result (X × Option Ty) TypeFault) (before after : List (ℕ × Ty)) : Type 0 where
  pub says : AnswersUnless NoMemory (λ r. (view r.0, result_type r.1)) result (act_found checker a)
  pub uses : IfOk result (λ r. after ≡ recorded_act checker (view r.0) before)
  pub low : IfOk result (λ r. HasFewRefs r.1)
