-- A parsed tree that resolves to a well typed tree is accepted.
use Rattle.std.proofs.Common.{◌≡◌, ℕ, Bool, true, false, ◌&&◌, List, ◌∷◌, Option, Some, None, Result, Ok, refl, ap, ap₂, ◌∙◌, sym, subst}
use Rattle.std.specs.Prelude.{slice_get, option_map, nat_le}
use Rattle.stm_terms.specs.declared.kinds.Ty.{Ty}
use Rattle.stm_terms.specs.declared.values.Value.{Value}
use Rattle.stm_terms.specs.declared.values.Value.TheVariants as value
use Rattle.stm_terms.specs.declared.expr.Op.{Op}
use Rattle.stm_terms.specs.declared.expr.Op.TheVariants.{Mul, Add, Sub, Eq, Lt, Le, And, Or}
use Rattle.stm_terms.specs.Ast.{Term, lit, local, global, bin, Act, return, read, write, make, retry, throw, if_else, or_else, bind, let_in, seq, catch}
use Rattle.stm_terms.specs.ParsedAst as raw
use Rattle.stm_terms.specs.Typing.{int_ty, bool_ty, unit_ty, var_ty, deref_ty, same_ty, literal_type, op_type, operands, expr_type, ActionType, Gives, Any, join_types, action_type}
use Rattle.stm_store.specs.Naming.{Named, number_named, known_kinds, with_kind, variable_named}
use Rattle.stm_check.specs.Scopes.{Locals, innermost, types_of, names_of}
use Rattle.stm_check.specs.CheckFunction.{wanted, given, as_wanted, wanted_right, on_ok, unless, on_some, on_type, declared_as, resolved, checked_expr, checked}
use Rattle.stm_check.specs.Resolving.{number_in, IsNamed, IsTerm, IsAct}
use Rattle.stm_check.specs.declared.fault.TypeFault.{TypeFault}
use Rattle.stm_check.proofs.SameTypes.{both, ty_same, ty_refl}
use Rattle.stm_check.proofs.ExpressionsSound.{when_true, with_type_some}
use Rattle.stm_check.proofs.ActionsSound.{same_some, mapped, if_some, with_result_some, with_bound_some}
use Rattle.stm_check.proofs.CheckedTyped.{local_type}
use Rattle.stm_check.proofs.CheckedResolved.{numbered}

ok_is : {A B : Type 0} (o : Result A TypeFault) (go : A → Result B TypeFault) (x : A) (y : B) → o ≡ Ok x → go x ≡ Ok y → on_ok o go ≡ Ok y
ok_is o go x y p q = ap (λ w. on_ok w go) p ∙ q

unless_is : {B : Type 0} (b : Bool) (f : TypeFault) (go : Result B TypeFault) (y : B) → b ≡ true → go ≡ Ok y → unless b f go ≡ Ok y
unless_is true f go y p q = q
unless_is false f go y p q = absurd (cc)

some_is : {A B : Type 0} (o : Option A) (f : TypeFault) (go : A → Result B TypeFault) (x : A) (y : B) → o ≡ Some x → go x ≡ Ok y → on_some o f go ≡ Ok y
some_is o f go x y p q = ap (λ w. on_some w f go) p ∙ q

type_is : {B : Type 0} (r : ActionType) (f : TypeFault) (go : Ty → Result B TypeFault) (t : Ty) (y : B) → r ≡ Gives t → go t ≡ Ok y → on_type r f go ≡ Ok y
type_is r f go t y p q = ap (λ w. on_type w f go) p ∙ q

same_turned : (t u : Ty) → same_ty t u ≡ true → same_ty u t ≡ true
same_turned t u e = subst (λ (w : Ty). same_ty w t ≡ true) (ty_same t u e) (ty_refl t)

-- an operator's operands are of the types that are wanted
operands_are : (w g t u r : Ty) → operands w g t u ≡ Some r → (same_ty t w ≡ true) × (same_ty u w ≡ true) × (g ≡ r)
operands_are w g t u r e =
    let b = when_true (same_ty t w && same_ty u w) g r e in
    let c = both (same_ty t w) (same_ty u w) b.0 in
    (c.0, c.1, b.1)

op_left : (op : Op) (t u r : Ty) → op_type op t u ≡ Some r → (as_wanted (wanted op) t ≡ true) × (same_ty u (wanted_right (wanted op) t) ≡ true) × (given op ≡ r)
op_left Mul t u r e = operands_are int_ty int_ty t u r e
op_left Add t u r e = operands_are int_ty int_ty t u r e
op_left Sub t u r e = operands_are int_ty int_ty t u r e
op_left Lt t u r e = operands_are int_ty bool_ty t u r e
op_left Le t u r e = operands_are int_ty bool_ty t u r e
op_left And t u r e = operands_are bool_ty bool_ty t u r e
op_left Or t u r e = operands_are bool_ty bool_ty t u r e
op_left Eq t u r e = let b = when_true (same_ty t u) bool_ty r e in (refl, same_turned t u b.0, b.1)

no_local : (o : Option (ℕ × Ty)) → option_map (λ v. v.0) o ≡ None → o ≡ None
no_local (Some v) e = absurd (cc)
no_local None e = refl

-- the cell of a reference
inside_of : (t u : Ty) → t ≡ var_ty u → deref_ty t ≡ Some u
inside_of t u e = ap deref_ty e

module _ (known : List Named) (text : List ℕ) where
  literal_checked : (ls : Locals) (v : Value) (u : Ty) (x : Term) (t : Ty) → literal_type v ≡ Some u → x ≡ lit v → expr_type (known_kinds known) (types_of ls) x ≡ Some t → (let w : Result (Term × Ty) TypeFault = Ok (lit v, u) in w) ≡ Ok (x, t)
  literal_checked ls v u x t k h p =
      let q : literal_type v ≡ Some t = subst (λ (z : Term). expr_type (known_kinds known) (types_of ls) z ≡ Some t) h p in
      let same : u ≡ t = same_some u t (sym k ∙ q) in
      ap₂ (λ (a : Term) (b : Ty). let w : Result (Term × Ty) TypeFault = Ok (a, b) in w) (sym h) same

  local_found : (ls : Locals) (name : List ℕ) (i : ℕ) (t : Ty) → number_in name (names_of ls) ≡ Some i → slice_get (types_of ls) i ≡ Some t → innermost name ls ≡ Some (i, t)
  local_found ls name i t h p =
      let m = mapped (λ (v : ℕ × Ty). v.0) (innermost name ls) i (sym (numbered name ls) ∙ h) in
      let q : slice_get (types_of ls) m.0.0 ≡ Some m.0.1 = local_type name ls m.0 m.1 in
      let r : slice_get (types_of ls) i ≡ Some m.0.1 = subst (λ (j : ℕ). slice_get (types_of ls) j ≡ Some m.0.1) m.2 q in
      m.1 ∙ ap₂ (λ (a : ℕ) (b : Ty). let w : Option (ℕ × Ty) = Some (a, b) in w) m.2 (same_some m.0.1 t (sym r ∙ p))

  variable_found : (name : List ℕ) (i : ℕ) (t : Ty) → number_named name known ≡ Some i → option_map var_ty (known_kinds known i) ≡ Some t → (u : Ty) × (variable_named name known ≡ Some (i, u)) × (var_ty u ≡ t)
  variable_found name i t h p =
      let m = mapped var_ty (known_kinds known i) t p in
      (m.0, ap (with_kind (known_kinds known)) h ∙ ap (option_map (λ u. (i, u))) m.1, m.2)

  name_checked : (at : ℕ) (ls : Locals) (name : List ℕ) (x : Term) (t : Ty) → IsNamed known text (names_of ls) name x → expr_type (known_kinds known) (types_of ls) x ≡ Some t → resolved at (innermost name ls) (variable_named name known) ≡ Ok (x, t)
  name_checked at ls name (local i) t h p =
      ap (λ (o : Option (ℕ × Ty)). resolved at o (variable_named name known)) (local_found ls name i t h p)
  name_checked at ls name (global i) t h p =
      let none : innermost name ls ≡ None = no_local (innermost name ls) (sym (numbered name ls) ∙ h.0) in
      let v = variable_found name i t h.1 p in
      ap (λ (o : Option (ℕ × Ty)). resolved at o (variable_named name known)) none
      ∙ ap (declared_as at) v.1
      ∙ ap (λ (u : Ty). let w : Result (Term × Ty) TypeFault = Ok (global i, u) in w) v.2
  name_checked at ls name x t h p = absurd h

  pub expr_accepted : (e : raw.RawTerm) (ls : Locals) (x : Term) (t : Ty) → IsTerm known text (names_of ls) e x → expr_type (known_kinds known) (types_of ls) x ≡ Some t → checked_expr known text ls e ≡ Ok (x, t)
  expr_accepted (raw.int n at) ls x t h p = literal_checked ls (value.Int n) int_ty x t refl h p
  expr_accepted (raw.truth b at) ls x t h p = literal_checked ls (value.Bool b) bool_ty x t refl h p
  expr_accepted (raw.unit at) ls x t h p = literal_checked ls value.Unit unit_ty x t refl h p
  expr_accepted (raw.name span) ls x t h p = name_checked span.start ls (raw.text_at text span) x t h p
  expr_accepted (raw.bin op a b) ls (bin or x y) t h p =
      let l = with_type_some (expr_type (known_kinds known) (types_of ls) x) _ t p in
      let m = with_type_some (expr_type (known_kinds known) (types_of ls) y) _ t l.2 in
      let o = op_left op l.0 m.0 t (subst (λ (f : Op). op_type f l.0 m.0 ≡ Some t) (sym h.0) m.2) in
      ok_is (checked_expr known text ls a) _ (x, l.0) (bin or x y, t) (expr_accepted a ls x l.0 h.1 l.1)
      (unless_is (as_wanted (wanted op) l.0) _ _ (bin or x y, t) o.0
      (ok_is (checked_expr known text ls b) _ (y, m.0) (bin or x y, t) (expr_accepted b ls y m.0 h.2 m.1)
      (unless_is (same_ty m.0 (wanted_right (wanted op) l.0)) _ _ (bin or x y, t) o.1
      (ap₂ (λ (f : Op) (u : Ty). let w : Result (Term × Ty) TypeFault = Ok (bin f x y, u) in w) h.0 o.2))))
  expr_accepted (raw.bin op a b) ls x t h p = absurd h

  pub act_accepted : (w : raw.RawAct) (ls : Locals) (a : Act) (r : ActionType) → IsAct known text (names_of ls) w a → action_type (known_kinds known) (types_of ls) a ≡ Some r → checked known text ls w ≡ Ok (a, r)
  act_accepted (raw.return e) ls (return x) r h p =
      let t = with_type_some (expr_type (known_kinds known) (types_of ls) x) _ r p in
      ok_is (checked_expr known text ls e) _ (x, t.0) (return x, r) (expr_accepted e ls x t.0 h t.1)
      (ap (λ (s : ActionType). let w : Result (Act × ActionType) TypeFault = Ok (return x, s) in w) (same_some (Gives t.0) r t.2))
  act_accepted (raw.read e) ls (read x) r h p =
      let t = with_type_some (expr_type (known_kinds known) (types_of ls) x) _ r p in
      let u = with_type_some (deref_ty t.0) _ r t.2 in
      ok_is (checked_expr known text ls e) _ (x, t.0) (read x, r) (expr_accepted e ls x t.0 h t.1)
      (some_is (deref_ty t.0) _ _ u.0 (read x, r) u.1
      (ap (λ (s : ActionType). let w : Result (Act × ActionType) TypeFault = Ok (read x, s) in w) (same_some (Gives u.0) r u.2)))
  act_accepted (raw.write e f) ls (write x y) r h p =
      let t = with_type_some (expr_type (known_kinds known) (types_of ls) x) _ r p in
      let u = with_type_some (expr_type (known_kinds known) (types_of ls) y) _ r t.2 in
      let b = when_true (same_ty t.0 (var_ty u.0)) (Gives unit_ty) r u.2 in
      ok_is (checked_expr known text ls e) _ (x, t.0) (write x y, r) (expr_accepted e ls x t.0 h.0 t.1)
      (some_is (deref_ty t.0) _ _ u.0 (write x y, r) (inside_of t.0 u.0 (ty_same t.0 (var_ty u.0) b.0))
      (ok_is (checked_expr known text ls f) _ (y, u.0) (write x y, r) (expr_accepted f ls y u.0 h.1 u.1)
      (unless_is (same_ty u.0 u.0) _ _ (write x y, r) (ty_refl u.0)
      (ap (λ (s : ActionType). let w : Result (Act × ActionType) TypeFault = Ok (write x y, s) in w) b.1))))
  act_accepted (raw.make e) ls (make k x) r h p =
      let t = with_type_some (expr_type (known_kinds known) (types_of ls) x) _ r p in
      let b = when_true (same_ty k t.0 && nat_le k.refs 8) (Gives (var_ty k)) r t.2 in
      let c = both (same_ty k t.0) (nat_le k.refs 8) b.0 in
      let same : k ≡ t.0 = ty_same k t.0 c.0 in
      ok_is (checked_expr known text ls e) _ (x, k) (make k x, r) (expr_accepted e ls x k h (t.1 ∙ ap Some (sym same)))
      (unless_is (nat_le k.refs 8) _ _ (make k x, r) c.1
      (ap (λ (s : ActionType). let w : Result (Act × ActionType) TypeFault = Ok (make k x, s) in w) b.1))
  act_accepted raw.retry ls retry r h p =
      ap (λ (s : ActionType). let w : Result (Act × ActionType) TypeFault = Ok (retry, s) in w) (same_some Any r p)
  act_accepted (raw.throw e) ls (throw x) r h p =
      let t = with_type_some (expr_type (known_kinds known) (types_of ls) x) _ r p in
      let b = when_true (same_ty t.0 int_ty) Any r t.2 in
      ok_is (checked_expr known text ls e) _ (x, t.0) (throw x, r) (expr_accepted e ls x t.0 h t.1)
      (unless_is (same_ty t.0 int_ty) _ _ (throw x, r) b.0
      (ap (λ (s : ActionType). let w : Result (Act × ActionType) TypeFault = Ok (throw x, s) in w) b.1))
  act_accepted (raw.if_else e a at b) ls (if_else x y z) r h p =
      let t = with_type_some (expr_type (known_kinds known) (types_of ls) x) _ r p in
      let c = if_some (same_ty t.0 bool_ty) _ r t.2 in
      let s = with_result_some (action_type (known_kinds known) (types_of ls) y) _ r c.1 in
      let u = with_result_some (action_type (known_kinds known) (types_of ls) z) _ r s.2 in
      ok_is (checked_expr known text ls e) _ (x, t.0) (if_else x y z, r) (expr_accepted e ls x t.0 h.0 t.1)
      (unless_is (same_ty t.0 bool_ty) _ _ (if_else x y z, r) c.0
      (ok_is (checked known text ls a) _ (y, s.0) (if_else x y z, r) (act_accepted a ls y s.0 h.1 s.1)
      (ok_is (checked known text ls b) _ (z, u.0) (if_else x y z, r) (act_accepted b ls z u.0 h.2 u.1)
      (some_is (join_types s.0 u.0) _ _ r (if_else x y z, r) u.2 refl))))
  act_accepted (raw.or_else a at b) ls (or_else y z) r h p =
      let s = with_result_some (action_type (known_kinds known) (types_of ls) y) _ r p in
      let u = with_result_some (action_type (known_kinds known) (types_of ls) z) _ r s.2 in
      ok_is (checked known text ls a) _ (y, s.0) (or_else y z, r) (act_accepted a ls y s.0 h.0 s.1)
      (ok_is (checked known text ls b) _ (z, u.0) (or_else y z, r) (act_accepted b ls z u.0 h.1 u.1)
      (some_is (join_types s.0 u.0) _ _ r (or_else y z, r) u.2 refl))
  act_accepted (raw.bind span at a b) ls (bind y z) r h p =
      let s = with_result_some (action_type (known_kinds known) (types_of ls) y) _ r p in
      let t = with_bound_some s.0 _ r s.2 in
      let inner : Locals = (raw.text_at text span, t.0) ∷ ls in
      ok_is (checked known text ls a) _ (y, s.0) (bind y z, r) (act_accepted a ls y s.0 h.0 s.1)
      (type_is s.0 _ _ t.0 (bind y z, r) t.1
      (ok_is (checked known text inner b) _ (z, r) (bind y z, r) (act_accepted b inner z r h.1 t.2) refl))
  act_accepted (raw.let_in span e b) ls (let_in x z) r h p =
      let t = with_type_some (expr_type (known_kinds known) (types_of ls) x) _ r p in
      let inner : Locals = (raw.text_at text span, t.0) ∷ ls in
      ok_is (checked_expr known text ls e) _ (x, t.0) (let_in x z, r) (expr_accepted e ls x t.0 h.0 t.1)
      (ok_is (checked known text inner b) _ (z, r) (let_in x z, r) (act_accepted b inner z r h.1 t.2) refl)
  act_accepted (raw.seq a b) ls (seq y z) r h p =
      let s = with_result_some (action_type (known_kinds known) (types_of ls) y) _ r p in
      ok_is (checked known text ls a) _ (y, s.0) (seq y z, r) (act_accepted a ls y s.0 h.0 s.1)
      (ok_is (checked known text ls b) _ (z, r) (seq y z, r) (act_accepted b ls z r h.1 s.2) refl)
  act_accepted (raw.catch a span at b) ls (catch y z) r h p =
      let s = with_result_some (action_type (known_kinds known) (types_of ls) y) _ r p in
      let inner : Locals = (raw.text_at text span, int_ty) ∷ ls in
      let u = with_result_some (action_type (known_kinds known) (types_of inner) z) _ r s.2 in
      ok_is (checked known text ls a) _ (y, s.0) (catch y z, r) (act_accepted a ls y s.0 h.0 s.1)
      (ok_is (checked known text inner b) _ (z, u.0) (catch y z, r) (act_accepted b inner z u.0 h.1 u.1)
      (some_is (join_types s.0 u.0) _ _ r (catch y z, r) u.2 refl))
  act_accepted w ls a r h p = absurd h
