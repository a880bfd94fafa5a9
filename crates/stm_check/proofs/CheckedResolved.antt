-- What the check accepts is the parsed tree with its names resolved.
use Rattle.std.proofs.Common.{◌≡◌, ℕ, Bool, true, false, List, [], ◌∷◌, length, Option, Some, None, IfOk, refl, ap, ◌∙◌}
use Rattle.std.specs.Prelude.{option_map, nat_le, if◌then◌else◌}
use Rattle.std.specs.Str.{bytes_eq}
use Rattle.stm_terms.specs.declared.kinds.Ty.{Ty}
use Rattle.stm_terms.specs.Ast.{Term, bin, Act, write, if_else, or_else, bind, let_in, seq, catch}
use Rattle.stm_terms.specs.ParsedAst as raw
use Rattle.stm_terms.specs.Typing.{TypeEnv, int_ty, bool_ty, unit_ty, deref_ty, same_ty, ActionType, Gives, join_types}
use Rattle.stm_store.specs.Naming.{Named, number_named, known_kinds, with_kind, variable_named}
use Rattle.stm_check.specs.Scopes.{Locals, innermost, names_of}
use Rattle.stm_check.specs.CheckFunction.{wanted, given, as_wanted, wanted_right, declared_as, resolved, checked_expr, checked}
use Rattle.stm_check.specs.Resolving.{number_in, IsNamed, IsTerm, IsAct}
use Rattle.stm_check.proofs.CheckedTyped.{ok_then, unless_then, some_then, type_then}

names_length : (ls : Locals) → length (names_of ls) ≡ length ls
names_length [] = refl
names_length (l ∷ outer) = let e = names_length outer in rw e refl

number_if : (b : Bool) (m n : ℕ) (t : Ty) (o : Option ℕ) (p : Option (ℕ × Ty)) → m ≡ n → o ≡ option_map (λ v. v.0) p → (if b then Some m else o) ≡ option_map (λ v. v.0) (if b then Some (n, t) else p)
number_if true m n t o p e f = ap Some e
number_if false m n t o p e f = f

-- without types, a name has the same number
pub numbered : (name : List ℕ) (ls : Locals) → number_in name (names_of ls) ≡ option_map (λ v. v.0) (innermost name ls)
numbered name [] = refl
numbered name (l ∷ outer) =
    number_if (bytes_eq l.0 name) (length (names_of outer)) (length outer) l.1 (number_in name (names_of outer)) (innermost name outer) (names_length outer) (numbered name outer)

kind_number : (kinds : TypeEnv) (i : ℕ) (o : Option Ty) (v : ℕ × Ty) → option_map (λ t. (i, t)) o ≡ Some v → i ≡ v.0
kind_number kinds i (Some t) v e = let q : (i, t) ≡ v = cc in ap (λ (w : ℕ × Ty). w.0) q
kind_number kinds i None v e = absurd (cc)

has_number : (kinds : TypeEnv) (o : Option ℕ) (v : ℕ × Ty) → with_kind kinds o ≡ Some v → o ≡ Some v.0
has_number kinds (Some i) v e = ap Some (kind_number kinds i (kinds i) v e)
has_number kinds None v e = absurd (cc)

module _ (known : List Named) (text : List ℕ) where
  abbrev NamedExpr : List (List ℕ) → raw.RawTerm → Term × Ty → Type 0
  NamedExpr ns e x = IsTerm known text ns e x.0

  abbrev NamedAct : List (List ℕ) → raw.RawAct → Act × ActionType → Type 0
  NamedAct ns a x = IsAct known text ns a x.0

  declared_named : (at : ℕ) (ns : List (List ℕ)) (name : List ℕ) (o : Option (ℕ × Ty)) → number_in name ns ≡ None → variable_named name known ≡ o → IfOk (declared_as at o) (λ x. IsNamed known text ns name x.0)
  declared_named at ns name (Some v) h e = (h, has_number (known_kinds known) (number_named name known) v e)
  declared_named at ns name None h e = tt

  name_named : (at : ℕ) (ls : Locals) (name : List ℕ) (o : Option (ℕ × Ty)) → innermost name ls ≡ o → IfOk (resolved at o (variable_named name known)) (λ x. IsNamed known text (names_of ls) name x.0)
  name_named at ls name (Some l) e = numbered name ls ∙ ap (option_map (λ v. v.0)) e
  name_named at ls name None e =
      declared_named at (names_of ls) name (variable_named name known) (numbered name ls ∙ ap (option_map (λ v. v.0)) e) refl

  pub expr_named : (e : raw.RawTerm) (ls : Locals) → IfOk (checked_expr known text ls e) (λ x. IsTerm known text (names_of ls) e x.0)
  expr_named (raw.int n at) ls = refl
  expr_named (raw.truth b at) ls = refl
  expr_named (raw.unit at) ls = refl
  expr_named (raw.name span) ls =
      name_named span.start ls (raw.text_at text span) (innermost (raw.text_at text span) ls) refl
  expr_named (raw.bin op a b) ls =
      let P = NamedExpr (names_of ls) (raw.bin op a b) in
      ok_then _ _ (NamedExpr (names_of ls) a) P (expr_named a ls) (λ x p. unless_then (as_wanted (wanted op) x.1) _ _ P (λ f.
      ok_then _ _ (NamedExpr (names_of ls) b) P (expr_named b ls) (λ y q. unless_then (same_ty y.1 (wanted_right (wanted op) x.1)) _ _ P (λ g. let d : NamedExpr (names_of ls) (raw.bin op a b) (bin op x.0 y.0, given op) = (refl, p, q) in d))))

  pub act_named : (a : raw.RawAct) (ls : Locals) → IfOk (checked known text ls a) (λ x. IsAct known text (names_of ls) a x.0)
  act_named (raw.return e) ls =
      ok_then _ _ (NamedExpr (names_of ls) e) (NamedAct (names_of ls) (raw.return e)) (expr_named e ls) (λ x p. p)
  act_named (raw.read e) ls =
      let P = NamedAct (names_of ls) (raw.read e) in
      ok_then _ _ (NamedExpr (names_of ls) e) P (expr_named e ls) (λ x p. some_then (deref_ty x.1) _ _ P (λ t i. p))
  act_named (raw.write r e) ls =
      let P = NamedAct (names_of ls) (raw.write r e) in
      ok_then _ _ (NamedExpr (names_of ls) r) P (expr_named r ls) (λ x p. some_then (deref_ty x.1) _ _ P (λ t i.
      ok_then _ _ (NamedExpr (names_of ls) e) P (expr_named e ls) (λ y q. unless_then (same_ty y.1 t) _ _ P (λ s. let d : NamedAct (names_of ls) (raw.write r e) (write x.0 y.0, Gives unit_ty) = (p, q) in d))))
  act_named (raw.make e) ls =
      let P = NamedAct (names_of ls) (raw.make e) in
      ok_then _ _ (NamedExpr (names_of ls) e) P (expr_named e ls) (λ x p. unless_then (nat_le x.1.refs 8) _ _ P (λ s. p))
  act_named raw.retry ls = tt
  act_named (raw.throw e) ls =
      let P = NamedAct (names_of ls) (raw.throw e) in
      ok_then _ _ (NamedExpr (names_of ls) e) P (expr_named e ls) (λ x p. unless_then (same_ty x.1 int_ty) _ _ P (λ s. p))
  act_named (raw.if_else e a at b) ls =
      let P = NamedAct (names_of ls) (raw.if_else e a at b) in
      ok_then _ _ (NamedExpr (names_of ls) e) P (expr_named e ls) (λ x p. unless_then (same_ty x.1 bool_ty) _ _ P (λ s.
      ok_then _ _ (NamedAct (names_of ls) a) P (act_named a ls) (λ y q. ok_then _ _ (NamedAct (names_of ls) b) P (act_named b ls) (λ z r.
      some_then (join_types y.1 z.1) _ _ P (λ w j. let d : NamedAct (names_of ls) (raw.if_else e a at b) (if_else x.0 y.0 z.0, w) = (p, q, r) in d)))))
  act_named (raw.or_else a at b) ls =
      let P = NamedAct (names_of ls) (raw.or_else a at b) in
      ok_then _ _ (NamedAct (names_of ls) a) P (act_named a ls) (λ y q. ok_then _ _ (NamedAct (names_of ls) b) P (act_named b ls) (λ z r.
      some_then (join_types y.1 z.1) _ _ P (λ w j. let d : NamedAct (names_of ls) (raw.or_else a at b) (or_else y.0 z.0, w) = (q, r) in d)))
  act_named (raw.bind span at a b) ls =
      let P = NamedAct (names_of ls) (raw.bind span at a b) in
      ok_then _ _ (NamedAct (names_of ls) a) P (act_named a ls) (λ x p. type_then x.1 _ _ P (λ t g.
      ok_then _ _ (NamedAct (raw.text_at text span ∷ names_of ls) b) P (act_named b ((raw.text_at text span, t) ∷ ls)) (λ y q. let d : NamedAct (names_of ls) (raw.bind span at a b) (bind x.0 y.0, y.1) = (p, q) in d)))
  act_named (raw.let_in span e b) ls =
      let P = NamedAct (names_of ls) (raw.let_in span e b) in
      ok_then _ _ (NamedExpr (names_of ls) e) P (expr_named e ls) (λ x p.
      ok_then _ _ (NamedAct (raw.text_at text span ∷ names_of ls) b) P (act_named b ((raw.text_at text span, x.1) ∷ ls)) (λ y q. let d : NamedAct (names_of ls) (raw.let_in span e b) (let_in x.0 y.0, y.1) = (p, q) in d))
  act_named (raw.seq a b) ls =
      let P = NamedAct (names_of ls) (raw.seq a b) in
      ok_then _ _ (NamedAct (names_of ls) a) P (act_named a ls) (λ x p. ok_then _ _ (NamedAct (names_of ls) b) P (act_named b ls) (λ y q. let d : NamedAct (names_of ls) (raw.seq a b) (seq x.0 y.0, y.1) = (p, q) in d))
  act_named (raw.catch a span at b) ls =
      let P = NamedAct (names_of ls) (raw.catch a span at b) in
      ok_then _ _ (NamedAct (names_of ls) a) P (act_named a ls) (λ y q.
      ok_then _ _ (NamedAct (raw.text_at text span ∷ names_of ls) b) P (act_named b ((raw.text_at text span, int_ty) ∷ ls)) (λ z r.
      some_then (join_types y.1 z.1) _ _ P (λ w j. let d : NamedAct (names_of ls) (raw.catch a span at b) (catch y.0 z.0, w) = (q, r) in d)))
