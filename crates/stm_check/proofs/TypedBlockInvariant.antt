-- What a checked block keeps.
use Rattle.std.proofs.Common.{◌≡◌, ℕ, ◌≤◌, List, [], ◌∷◌, Some, Result, Ok, Err, IfOk, sym, subst, arith}
use Rattle.std.specs.Prelude.{nat_le, ⊤}
use Rattle.stm_terms.specs.declared.kinds.Ty.{Ty}
use Rattle.stm_terms.specs.Ast.{Term, Act, return, read, write, make, retry, throw, if_else, or_else, bind, let_in, seq, catch}
use Rattle.stm_terms.specs.ParsedAst as raw
use Rattle.stm_terms.specs.Typing.{int_ty, bool_ty, unit_ty, var_ty, deref_ty, same_ty, join_types, ActionType, Gives, Any, action_type, kinds_in, uses_of, makes}
use Rattle.stm_check.proofs.Strengthening.{typed_by_uses}
use Rattle.stm_store.specs.Naming.{Named, known_kinds}
use Rattle.stm_check.specs.Scopes.{Locals}
use Rattle.stm_check.specs.CheckFunction.{checked_expr, checked}
use Rattle.stm_check.specs.declared.fault.TypeFault.{TypeFault}
use Rattle.stm_check.proofs.CheckedTyped.{typed, ok_then, unless_then, some_then, type_then}

-- at most as many `newTVar`s as parsed actions
abbrev Small : ℕ → Act × ActionType → Type 0
Small n x = makes x.0 ≤ n

abbrev Anything : Term × Ty → Type 0
Anything x = ⊤

any_expr : (o : Result (Term × Ty) TypeFault) → IfOk o Anything
any_expr (Ok x) = tt
any_expr (Err e) = tt

module _ (known : List Named) (text : List ℕ) where
  abbrev SmallAct : raw.RawAct → Act × ActionType → Type 0
  SmallAct a x = Small (raw.actions a) x

  small : (a : raw.RawAct) (ls : Locals) → IfOk (checked known text ls a) (SmallAct a)
  small (raw.return e) ls = ok_then _ _ Anything (Small 1) (any_expr (checked_expr known text ls e)) (λ x p. let d : Small 1 (return x.0, Gives x.1) = omega arith in d)
  small (raw.read e) ls =
      ok_then _ _ Anything (Small 1) (any_expr (checked_expr known text ls e)) (λ x p.
      some_then (deref_ty x.1) _ _ (Small 1) (λ t i. let d : Small 1 (read x.0, Gives t) = omega arith in d))
  small (raw.write r e) ls =
      ok_then _ _ Anything (Small 1) (any_expr (checked_expr known text ls r)) (λ x p. some_then (deref_ty x.1) _ _ (Small 1) (λ t i.
      ok_then _ _ Anything (Small 1) (any_expr (checked_expr known text ls e)) (λ y q. unless_then (same_ty y.1 t) _ _ (Small 1) (λ s.
      let d : Small 1 (write x.0 y.0, Gives unit_ty) = omega arith in d))))
  small (raw.make e) ls =
      ok_then _ _ Anything (Small 1) (any_expr (checked_expr known text ls e)) (λ x p.
      unless_then (nat_le x.1.refs 8) _ _ (Small 1) (λ s. let d : Small 1 (make x.1 x.0, Gives (var_ty x.1)) = omega arith in d))
  small raw.retry ls = let d : Small 1 (retry, Any) = omega arith in d
  small (raw.throw e) ls =
      ok_then _ _ Anything (Small 1) (any_expr (checked_expr known text ls e)) (λ x p.
      unless_then (same_ty x.1 int_ty) _ _ (Small 1) (λ s. let d : Small 1 (throw x.0, Any) = omega arith in d))
  small (raw.if_else e a at b) ls =
      ok_then _ _ Anything (SmallAct (raw.if_else e a at b)) (any_expr (checked_expr known text ls e)) (λ x p.
      unless_then (same_ty x.1 bool_ty) _ _ (SmallAct (raw.if_else e a at b)) (λ s.
      ok_then _ _ (SmallAct a) (SmallAct (raw.if_else e a at b)) (small a ls) (λ y q.
      ok_then _ _ (SmallAct b) (SmallAct (raw.if_else e a at b)) (small b ls) (λ z r.
      some_then (join_types y.1 z.1) _ _ (SmallAct (raw.if_else e a at b)) (λ w j.
      let d : SmallAct (raw.if_else e a at b) (if_else x.0 y.0 z.0, w) = omega arith in d)))))
  small (raw.or_else a at b) ls =
      ok_then _ _ (SmallAct a) (SmallAct (raw.or_else a at b)) (small a ls) (λ y q.
      ok_then _ _ (SmallAct b) (SmallAct (raw.or_else a at b)) (small b ls) (λ z r.
      some_then (join_types y.1 z.1) _ _ (SmallAct (raw.or_else a at b)) (λ w j.
      let d : SmallAct (raw.or_else a at b) (or_else y.0 z.0, w) = omega arith in d)))
  small (raw.bind span at a b) ls =
      ok_then _ _ (SmallAct a) (SmallAct (raw.bind span at a b)) (small a ls) (λ y q.
      type_then y.1 _ _ (SmallAct (raw.bind span at a b)) (λ t g.
      ok_then _ _ (SmallAct b) (SmallAct (raw.bind span at a b)) (small b ((raw.text_at text span, t) ∷ ls)) (λ z r.
      let d : SmallAct (raw.bind span at a b) (bind y.0 z.0, z.1) = omega arith in d)))
  small (raw.let_in span e b) ls =
      ok_then _ _ Anything (SmallAct (raw.let_in span e b)) (any_expr (checked_expr known text ls e)) (λ x p.
      ok_then _ _ (SmallAct b) (SmallAct (raw.let_in span e b)) (small b ((raw.text_at text span, x.1) ∷ ls)) (λ z r.
      let d : SmallAct (raw.let_in span e b) (let_in x.0 z.0, z.1) = omega arith in d))
  small (raw.seq a b) ls =
      ok_then _ _ (SmallAct a) (SmallAct (raw.seq a b)) (small a ls) (λ y q.
      ok_then _ _ (SmallAct b) (SmallAct (raw.seq a b)) (small b ls) (λ z r.
      let d : SmallAct (raw.seq a b) (seq y.0 z.0, z.1) = omega arith in d))
  small (raw.catch a span at b) ls =
      ok_then _ _ (SmallAct a) (SmallAct (raw.catch a span at b)) (small a ls) (λ y q.
      ok_then _ _ (SmallAct b) (SmallAct (raw.catch a span at b)) (small b ((raw.text_at text span, int_ty) ∷ ls)) (λ z r.
      some_then (join_types y.1 z.1) _ _ (SmallAct (raw.catch a span at b)) (λ w j.
      let d : SmallAct (raw.catch a span at b) (catch y.0 z.0, w) = omega arith in d)))

pub kept_small : (known : List Named) (text : List ℕ) (w : raw.RawAct) (a : Act) (r : ActionType) → checked known text [] w ≡ Ok (a, r) → makes a ≤ raw.actions w
kept_small known text w a r e = let h = small known text w [] in subst (λ (o : Result (Act × ActionType) TypeFault). IfOk o (Small (raw.actions w))) e h

pub kept_type : (known : List Named) (text : List ℕ) (w : raw.RawAct) (a : Act) (r : ActionType) (us : List (ℕ × Ty)) → checked known text [] w ≡ Ok (a, r) → us ≡ uses_of (known_kinds known) a → action_type (kinds_in us) [] a ≡ Some r
kept_type known text w a r us e u =
    let h : IfOk (checked known text [] w) (λ x. action_type (known_kinds known) [] x.0 ≡ Some x.1) = typed known text w [] in
    let p : action_type (known_kinds known) [] a ≡ Some r = subst (λ (o : Result (Act × ActionType) TypeFault). IfOk o (λ x. action_type (known_kinds known) [] x.0 ≡ Some x.1)) e h in
    subst (λ (v : List (ℕ × Ty)). action_type (kinds_in v) [] a ≡ Some r) (sym u) (typed_by_uses (known_kinds known) a r p)
