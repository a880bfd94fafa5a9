-- What the check accepts is well typed.
use Rattle.std.proofs.Common.{◌≡◌, ℕ, suc, zero, Bool, true, false, ◌&&◌, List, [], ◌∷◌, ◌++◌, length, Option, Some, None, Result, Ok, Err, IfOk, refl, ap, ◌∙◌, sym, subst}
use Rattle.std.specs.Prelude.{slice_get, option_map, nat_le, if◌then◌else◌}
use Rattle.std.specs.Str.{bytes_eq}
use Rattle.stm_terms.specs.declared.kinds.Ty.{Ty}
use Rattle.stm_terms.specs.declared.expr.Op.{Op}
use Rattle.stm_terms.specs.declared.expr.Op.TheVariants.{Mul, Add, Sub, Eq, Lt, Le, And, Or}
use Rattle.stm_terms.specs.Ast.{Term, bin, Act, return, read, write, make, throw, if_else, or_else, bind, let_in, seq, catch}
use Rattle.stm_terms.specs.ParsedAst as raw
use Rattle.stm_terms.specs.Typing.{TypeEnv, int_ty, bool_ty, unit_ty, var_ty, deref_ty, deref_at, same_ty, op_type, expr_type, ActionType, Gives, Any, join_types, when, action_type}
use Rattle.stm_check.proofs.SameTypes.{ty_same, ty_refl}
use Rattle.stm_store.specs.Naming.{Named, number_named, known_kinds, with_kind, variable_named}
use Rattle.stm_check.specs.Scopes.{Locals, innermost, types_of}
use Rattle.stm_check.specs.CheckFunction.{wanted, given, as_wanted, wanted_right, on_ok, unless, on_some, on_type, declared_as, resolved, checked_expr, checked}
use Rattle.stm_check.specs.declared.fault.TypeFault.{TypeFault}

pub ok_then : {A B : Type 0} (o : Result A TypeFault) (go : A → Result B TypeFault) (Q : A → Type 0) (P : B → Type 0) → IfOk o Q → ((x : A) → Q x → IfOk (go x) P) → IfOk (on_ok o go) P
ok_then (Ok x) go Q P q h = h x q
ok_then (Err e) go Q P q h = tt

pub unless_then : {B : Type 0} (b : Bool) (f : TypeFault) (go : Result B TypeFault) (P : B → Type 0) → (b ≡ true → IfOk go P) → IfOk (unless b f go) P
unless_then true f go P h = h refl
unless_then false f go P h = tt

pub some_then : {A B : Type 0} (o : Option A) (f : TypeFault) (go : A → Result B TypeFault) (P : B → Type 0) → ((x : A) → o ≡ Some x → IfOk (go x) P) → IfOk (on_some o f go) P
some_then (Some x) f go P h = h x refl
some_then None f go P h = tt

pub type_then : {B : Type 0} (r : ActionType) (f : TypeFault) (go : Ty → Result B TypeFault) (P : B → Type 0) → ((t : Ty) → r ≡ Gives t → IfOk (go t) P) → IfOk (on_type r f go) P
type_then (Gives t) f go P h = h t refl
type_then Any f go P h = tt

get_left : (xs ys : List Ty) (i : ℕ) (t : Ty) → slice_get xs i ≡ Some t → slice_get (xs ++ ys) i ≡ Some t
get_left [] ys i t e = absurd (cc)
get_left (x ∷ xs) ys zero t e = e
get_left (x ∷ xs) ys (suc i) t e = get_left xs ys i t e

get_end : (xs : List Ty) (t : Ty) → slice_get (xs ++ t ∷ []) (length xs) ≡ Some t
get_end [] t = refl
get_end (x ∷ xs) t = get_end xs t

types_length : (ls : Locals) → length (types_of ls) ≡ length ls
types_length [] = refl
types_length (l ∷ outer) = length_end (types_of outer) l.1 ∙ ap suc (types_length outer)
  where
    length_end : (xs : List Ty) (t : Ty) → length (xs ++ t ∷ []) ≡ suc (length xs)
    length_end [] t = refl
    length_end (x ∷ xs) t = ap suc (length_end xs t)

local_if : (b : Bool) (l : List ℕ × Ty) (outer : Locals) (o : Option (ℕ × Ty)) (v : ℕ × Ty) → (o ≡ Some v → slice_get (types_of outer) v.0 ≡ Some v.1) → (if b then Some (length outer, l.1) else o) ≡ Some v → slice_get (types_of outer ++ l.1 ∷ []) v.0 ≡ Some v.1
local_if true l outer o v h e =
    let p : (length outer, l.1) ≡ v = cc in
    subst (λ (w : ℕ × Ty). slice_get (types_of outer ++ l.1 ∷ []) w.0 ≡ Some w.1) p
    (ap (λ n. slice_get (types_of outer ++ l.1 ∷ []) n) (sym (types_length outer)) ∙ get_end (types_of outer) l.1)
local_if false l outer o v h e = get_left (types_of outer) (l.1 ∷ []) v.0 v.1 (h e)

pub local_type : (name : List ℕ) (ls : Locals) (v : ℕ × Ty) → innermost name ls ≡ Some v → slice_get (types_of ls) v.0 ≡ Some v.1
local_type name [] v e = absurd (cc)
local_type name (l ∷ outer) v e = local_if (bytes_eq l.0 name) l outer (innermost name outer) v (local_type name outer v) e

same_both : (a b : Bool) (g : Ty) → a ≡ true → b ≡ true → (if a && b then Some g else None) ≡ Some g
same_both true true g p q = refl
same_both true false g p q = absurd (cc)
same_both false b g p q = absurd (cc)

same_if : (b : Bool) (g : Ty) → b ≡ true → (if b then Some g else None) ≡ Some g
same_if true g p = refl
same_if false g p = absurd (cc)

same_sym : (t u : Ty) → same_ty u t ≡ true → same_ty t u ≡ true
same_sym t u e = subst (λ (w : Ty). same_ty t w ≡ true) (sym (ty_same u t e)) (ty_refl t)

op_right : (op : Op) (t u : Ty) → as_wanted (wanted op) t ≡ true → same_ty u (wanted_right (wanted op) t) ≡ true → op_type op t u ≡ Some (given op)
op_right Mul t u p q = same_both (same_ty t int_ty) (same_ty u int_ty) int_ty p q
op_right Add t u p q = same_both (same_ty t int_ty) (same_ty u int_ty) int_ty p q
op_right Sub t u p q = same_both (same_ty t int_ty) (same_ty u int_ty) int_ty p q
op_right Lt t u p q = same_both (same_ty t int_ty) (same_ty u int_ty) bool_ty p q
op_right Le t u p q = same_both (same_ty t int_ty) (same_ty u int_ty) bool_ty p q
op_right And t u p q = same_both (same_ty t bool_ty) (same_ty u bool_ty) bool_ty p q
op_right Or t u p q = same_both (same_ty t bool_ty) (same_ty u bool_ty) bool_ty p q
op_right Eq t u p q = same_if (same_ty t u) bool_ty (same_sym t u q)

when_right : (b : Bool) (r : ActionType) → b ≡ true → when b r ≡ Some r
when_right true r e = refl
when_right false r e = absurd (cc)

-- a reference to cells of a type
inside_var_at : (t : Ty) (n : ℕ) (c : Ty) → t.refs ≡ n → deref_at t.base n ≡ Some c → t ≡ var_ty c
inside_var_at t zero c r e = absurd (cc)
inside_var_at t (suc n) c r e =
    let mine : Ty = record { base = t.base; refs = n } in
    let p : mine ≡ c = cc in
    ap (λ (m : ℕ). let w : Ty = record { base = t.base; refs = m } in w) r ∙ ap var_ty p

pub inside_var : (t c : Ty) → deref_ty t ≡ Some c → t ≡ var_ty c
inside_var t c e = inside_var_at t t.refs c refl e

low_both : (t : Ty) → nat_le t.refs 8 ≡ true → (same_ty t t && nat_le t.refs 8) ≡ true
low_both t e = rw (ty_refl t) e

kind_there : (kinds : TypeEnv) (i : ℕ) (o : Option Ty) (v : ℕ × Ty) → kinds i ≡ o → option_map (λ t. (i, t)) o ≡ Some v → kinds v.0 ≡ Some v.1
kind_there kinds i (Some t) v e p =
    let q : (i, t) ≡ v = cc in
    subst (λ (w : ℕ × Ty). kinds w.0 ≡ Some w.1) q e
kind_there kinds i None v e p = absurd (cc)

number_kind : (kinds : TypeEnv) (o : Option ℕ) (v : ℕ × Ty) → with_kind kinds o ≡ Some v → kinds v.0 ≡ Some v.1
number_kind kinds (Some i) v e = kind_there kinds i (kinds i) v refl e
number_kind kinds None v e = absurd (cc)

pub variable_kind : (known : List Named) (name : List ℕ) (v : ℕ × Ty) → variable_named name known ≡ Some v → known_kinds known v.0 ≡ Some v.1
variable_kind known name v e = number_kind (known_kinds known) (number_named name known) v e

pub kind_found : (known : List Named) (name : List ℕ) (v : ℕ × Ty) → Some v ≡ variable_named name known → known_kinds known v.0 ≡ Some v.1
kind_found known name v e = variable_kind known name v (sym e)

module _ (known : List Named) (text : List ℕ) where
  abbrev TypedExpr : Locals → Term × Ty → Type 0
  TypedExpr ls x = expr_type (known_kinds known) (types_of ls) x.0 ≡ Some x.1

  abbrev TypedAct : Locals → Act × ActionType → Type 0
  TypedAct ls x = action_type (known_kinds known) (types_of ls) x.0 ≡ Some x.1

  declared_typed : (at : ℕ) (ls : Locals) (name : List ℕ) (o : Option (ℕ × Ty)) → variable_named name known ≡ o → IfOk (declared_as at o) (λ x. expr_type (known_kinds known) (types_of ls) x.0 ≡ Some x.1)
  declared_typed at ls name (Some v) e = ap (option_map var_ty) (variable_kind known name v e)
  declared_typed at ls name None e = tt

  name_typed : (at : ℕ) (ls : Locals) (name : List ℕ) (o : Option (ℕ × Ty)) → innermost name ls ≡ o → IfOk (resolved at o (variable_named name known)) (λ x. expr_type (known_kinds known) (types_of ls) x.0 ≡ Some x.1)
  name_typed at ls name (Some l) e = local_type name ls l e
  name_typed at ls name None e = declared_typed at ls name (variable_named name known) refl

  pub expr_typed : (e : raw.RawTerm) (ls : Locals) → IfOk (checked_expr known text ls e) (λ x. expr_type (known_kinds known) (types_of ls) x.0 ≡ Some x.1)
  expr_typed (raw.int n at) ls = refl
  expr_typed (raw.truth b at) ls = refl
  expr_typed (raw.unit at) ls = refl
  expr_typed (raw.name span) ls =
      name_typed span.start ls (raw.text_at text span) (innermost (raw.text_at text span) ls) refl
  expr_typed (raw.bin op a b) ls =
      ok_then _ _ (TypedExpr ls) (TypedExpr ls) (expr_typed a ls) (λ x p. unless_then _ _ _ (TypedExpr ls) (λ f.
      ok_then _ _ (TypedExpr ls) (TypedExpr ls) (expr_typed b ls) (λ y q. unless_then _ _ _ (TypedExpr ls) (λ g.
      let r : TypedExpr ls (bin op x.0 y.0, given op) = rw (p, q) (op_right op x.1 y.1 f g) in r))))

  pub typed : (a : raw.RawAct) (ls : Locals) → IfOk (checked known text ls a) (λ x. action_type (known_kinds known) (types_of ls) x.0 ≡ Some x.1)
  typed (raw.return e) ls = ok_then _ _ (TypedExpr ls) (TypedAct ls) (expr_typed e ls) (λ x p. let r : TypedAct ls (return x.0, Gives x.1) = rw p refl in r)
  typed (raw.read e) ls = ok_then _ _ (TypedExpr ls) (TypedAct ls) (expr_typed e ls) (λ x p. some_then (deref_ty x.1) _ _ (TypedAct ls) (λ t i. let r : TypedAct ls (read x.0, Gives t) = rw (p, i) refl in r))
  typed (raw.write r e) ls =
      ok_then _ _ (TypedExpr ls) (TypedAct ls) (expr_typed r ls) (λ x p. some_then (deref_ty x.1) _ _ (TypedAct ls) (λ t i.
      ok_then _ _ (TypedExpr ls) (TypedAct ls) (expr_typed e ls) (λ y q. unless_then (same_ty y.1 t) _ _ (TypedAct ls) (λ s.
      let d : TypedAct ls (write x.0 y.0, Gives unit_ty) =
      rw (p, q) (when_right (same_ty x.1 (var_ty y.1)) (Gives unit_ty)
      (subst (λ (w : Ty). same_ty w (var_ty y.1) ≡ true) (ap var_ty (ty_same y.1 t s) ∙ sym (inside_var x.1 t i)) (ty_refl (var_ty y.1)))) in d))))
  typed (raw.make e) ls =
      ok_then _ _ (TypedExpr ls) (TypedAct ls) (expr_typed e ls) (λ x p. unless_then (nat_le x.1.refs 8) _ _ (TypedAct ls) (λ s.
      let r : TypedAct ls (make x.1 x.0, Gives (var_ty x.1)) =
      rw p (when_right (same_ty x.1 x.1 && nat_le x.1.refs 8) (Gives (var_ty x.1)) (low_both x.1 s)) in r))
  typed raw.retry ls = refl
  typed (raw.throw e) ls =
      ok_then _ _ (TypedExpr ls) (TypedAct ls) (expr_typed e ls) (λ x p. unless_then (same_ty x.1 int_ty) _ _ (TypedAct ls) (λ s. let r : TypedAct ls (throw x.0, Any) = rw p (when_right (same_ty x.1 int_ty) Any s) in r))
  typed (raw.if_else e a at b) ls =
      ok_then _ _ (TypedExpr ls) (TypedAct ls) (expr_typed e ls) (λ x p. unless_then (same_ty x.1 bool_ty) _ _ (TypedAct ls) (λ s.
      ok_then _ _ (TypedAct ls) (TypedAct ls) (typed a ls) (λ y q. ok_then _ _ (TypedAct ls) (TypedAct ls) (typed b ls) (λ z r. some_then (join_types y.1 z.1) _ _ (TypedAct ls) (λ w j.
      let d : TypedAct ls (if_else x.0 y.0 z.0, w) = rw (p, s, q, r) j in d)))))
  typed (raw.or_else a at b) ls =
      ok_then _ _ (TypedAct ls) (TypedAct ls) (typed a ls) (λ y q. ok_then _ _ (TypedAct ls) (TypedAct ls) (typed b ls) (λ z r. some_then (join_types y.1 z.1) _ _ (TypedAct ls) (λ w j. let d : TypedAct ls (or_else y.0 z.0, w) = rw (q, r) j in d)))
  typed (raw.bind span at a b) ls =
      ok_then _ _ (TypedAct ls) (TypedAct ls) (typed a ls) (λ x p. type_then x.1 _ _ (TypedAct ls) (λ t g.
      ok_then _ _ (TypedAct ((raw.text_at text span, t) ∷ ls)) (TypedAct ls) (typed b ((raw.text_at text span, t) ∷ ls)) (λ y q. let d : TypedAct ls (bind x.0 y.0, y.1) = rw (p, g) q in d)))
  typed (raw.let_in span e b) ls =
      ok_then _ _ (TypedExpr ls) (TypedAct ls) (expr_typed e ls) (λ x p.
      ok_then _ _ (TypedAct ((raw.text_at text span, x.1) ∷ ls)) (TypedAct ls) (typed b ((raw.text_at text span, x.1) ∷ ls)) (λ y q. let d : TypedAct ls (let_in x.0 y.0, y.1) = rw p q in d))
  typed (raw.seq a b) ls =
      ok_then _ _ (TypedAct ls) (TypedAct ls) (typed a ls) (λ x p. ok_then _ _ (TypedAct ls) (TypedAct ls) (typed b ls) (λ y q. let d : TypedAct ls (seq x.0 y.0, y.1) = rw (p, q) refl in d))
  typed (raw.catch a span at b) ls =
      ok_then _ _ (TypedAct ls) (TypedAct ls) (typed a ls) (λ y q.
      ok_then _ _ (TypedAct ((raw.text_at text span, int_ty) ∷ ls)) (TypedAct ls) (typed b ((raw.text_at text span, int_ty) ∷ ls)) (λ z r.
      some_then (join_types y.1 z.1) _ _ (TypedAct ls) (λ w j. let d : TypedAct ls (catch y.0 z.0, w) = rw (q, r) j in d)))
