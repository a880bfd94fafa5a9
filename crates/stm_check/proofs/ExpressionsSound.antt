-- A well typed expression has a value of its type, or a fault.
use Rattle.std.proofs.Common.{◌≡◌, ◌≢◌, ℕ, zero, suc, Bool, true, false, List, [], ◌∷◌, Option, Some, None, Result, Ok, Err, refl, ap, sym, ◌∙◌, subst, arith, eqb-true}
use Rattle.std.specs.Prelude.{ℤ, ◌+ℤ◌, ◌-ℤ◌, ◌*ℤ◌, slice_get, option_map, ◌&&◌, ◌||◌, if◌then◌else◌, ⊤}
use Rattle.std.proofs.lemmas.Bool.{false≢true}
use Rattle.stm_terms.specs.declared.kinds.Base.{Base as BaseTy}
use Rattle.stm_terms.specs.declared.kinds.Base.TheVariants.{Int as IntBase, Bool as BoolBase, Unit as UnitBase}
use Rattle.stm_terms.specs.declared.kinds.Ty.{Ty}
use Rattle.stm_terms.specs.declared.values.Value.{Value}
use Rattle.stm_terms.specs.declared.values.Value.TheVariants.{Int, Bool as Truth, Unit as Nil, Var}
use Rattle.stm_terms.specs.declared.expr.Op.{Op}
use Rattle.stm_terms.specs.declared.expr.Op.TheVariants.{Mul, Add, Sub, Eq, Lt, Le, And, Or}
use Rattle.stm_terms.specs.Ast.{Term, lit, local, global, bin}
use Rattle.stm_terms.specs.declared.values.Fault.TheVariants.{Overflow}
use Rattle.stm_terms.specs.Value.{Answer, fits_i64, int_result, decides, apply_op, with_value, value}
use Rattle.stm_terms.specs.Changes.{Changes}
use Rattle.stm_terms.specs.Typing.{TypeEnv, int_ty, bool_ty, var_ty, same_base, same_ty, type_of, literal_type, with_type, operands, op_type, expr_type, HaveTypes}

pub and_left : (a b : Bool) → (a && b) ≡ true → a ≡ true
and_left true b e = refl
and_left false b e = e

pub and_right : (a b : Bool) → (a && b) ≡ true → b ≡ true
and_right true b e = e
and_right false b e = absurd (false≢true e)

same_base_equal : (a b : BaseTy) → same_base a b ≡ true → a ≡ b
same_base_equal IntBase IntBase e = refl
same_base_equal BoolBase BoolBase e = refl
same_base_equal UnitBase UnitBase e = refl
same_base_equal a b e = absurd (false≢true e)

pub same_ty_equal : (t u : Ty) → same_ty t u ≡ true → t ≡ u
same_ty_equal t u e =
    let p : t.base ≡ u.base = same_base_equal _ _ (and_left _ _ e) in
    let q : t.refs ≡ u.refs = eqb-true t.refs u.refs (and_right _ _ e) in
    λ i. record { base = p i; refs = q i }

pub when_true : {A : Type 0} (b : Bool) (x y : A) → (if b then Some x else None) ≡ Some y → (b ≡ true) × (x ≡ y)
when_true true x y e = (refl, cc)
when_true false x y e = absurd (cc)

pub with_type_some : {A : Type 0} (o : Option Ty) (go : Ty → Option A) (x : A) → with_type o go ≡ Some x → (t : Ty) × (o ≡ Some t) × (go t ≡ Some x)
with_type_some (Some t) go x e = (t, refl, e)
with_type_some None go x e = absurd (cc)

abbrev refs_of : Option Ty → ℕ
refs_of (Some t) = t.refs
refs_of None = 0

abbrev base_of : Option Ty → BaseTy
base_of (Some t) = t.base
base_of None = IntBase

no_reference : (o : Option Ty) (t : Ty) → option_map var_ty o ≡ Some t → t.refs ≢ 0
no_reference (Some u) t e z = let p : suc u.refs ≡ t.refs = ap refs_of e in omega arith
no_reference None t e z = absurd (cc)

operands_given : (w g t u r : Ty) → operands w g t u ≡ Some r → (t ≡ w) × (u ≡ w) × (g ≡ r)
operands_given w g t u r e =
    let b = when_true _ g r e in
    (same_ty_equal t w (and_left _ _ b.0), same_ty_equal u w (and_right _ _ b.0), b.1)

-- what is said of an answer at a type
abbrev pub IsOf : TypeEnv → Changes → Ty → Answer → Type 0
IsOf kinds h t (Some (Ok v)) = type_of kinds h v ≡ Some t
IsOf kinds h t (Some (Err f)) = ⊤
IsOf kinds h t None = ⊥

module _ (kinds : TypeEnv) (h : Changes) where
  pub is_int : (v : Value) → type_of kinds h v ≡ Some int_ty → (n : ℤ) × (v ≡ Int n)
  is_int (Int n) e = (n, refl)
  is_int (Truth b) e = let p : BoolBase ≡ IntBase = ap base_of e in absurd (cc)
  is_int Nil e = let p : UnitBase ≡ IntBase = ap base_of e in absurd (cc)
  is_int (Var r) e = absurd (no_reference _ _ e refl)

  pub is_truth : (v : Value) → type_of kinds h v ≡ Some bool_ty → (b : Bool) × (v ≡ Truth b)
  is_truth (Truth b) e = (b, refl)
  is_truth (Int n) e = let p : IntBase ≡ BoolBase = ap base_of e in absurd (cc)
  is_truth Nil e = let p : UnitBase ≡ BoolBase = ap base_of e in absurd (cc)
  is_truth (Var r) e = absurd (no_reference _ _ e refl)

  int_fine : (t : Ty) (z : ℤ) → int_ty ≡ t → IsOf kinds h t (Some (int_result z))
  int_fine t z e =
      elim (fits_i64 z) as (λ b. IsOf kinds h t (Some (if b then Ok (Int z) else Err Overflow))) [ true ↦ ap Some e | false ↦ tt ]

  of_ints : (op : Op) (f : ℤ → ℤ → Result Value _) (x y : Value) (g t u r : Ty) → ((m n : ℤ) → apply_op op (Int m) (Int n) ≡ Some (f m n)) → ((m n : ℤ) → g ≡ r → IsOf kinds h r (Some (f m n))) → type_of kinds h x ≡ Some t → type_of kinds h y ≡ Some u → operands int_ty g t u ≡ Some r → IsOf kinds h r (apply_op op x y)
  of_ints op f x y g t u r is fine p q e =
      let o = operands_given int_ty g t u r e in
      let m = is_int x (p ∙ ap Some o.0) in
      let n = is_int y (q ∙ ap Some o.1) in
      subst (λ v. IsOf kinds h r (apply_op op v y)) (sym m.1)
      (subst (λ w. IsOf kinds h r (apply_op op (Int m.0) w)) (sym n.1)
      (subst (λ a. IsOf kinds h r a) (sym (is m.0 n.0)) (fine m.0 n.0 o.2)))

  of_truths : (op : Op) (f : Bool → Bool → Bool) (x y : Value) (t u r : Ty) → ((a b : Bool) → apply_op op (Truth a) (Truth b) ≡ Some (Ok (Truth (f a b)))) → type_of kinds h x ≡ Some t → type_of kinds h y ≡ Some u → operands bool_ty bool_ty t u ≡ Some r → IsOf kinds h r (apply_op op x y)
  of_truths op f x y t u r is p q e =
      let o = operands_given bool_ty bool_ty t u r e in
      let m = is_truth x (p ∙ ap Some o.0) in
      let n = is_truth y (q ∙ ap Some o.1) in
      subst (λ v. IsOf kinds h r (apply_op op v y)) (sym m.1)
      (subst (λ w. IsOf kinds h r (apply_op op (Truth m.0) w)) (sym n.1)
      (subst (λ a. IsOf kinds h r a) (sym (is m.0 n.0)) (ap Some o.2)))

  applied_fine : (op : Op) (x y : Value) (t u r : Ty) → type_of kinds h x ≡ Some t → type_of kinds h y ≡ Some u → op_type op t u ≡ Some r → IsOf kinds h r (apply_op op x y)
  applied_fine Mul x y t u r p q e = of_ints Mul (λ m n. int_result (m *ℤ n)) x y int_ty t u r (λ m n. refl) (λ m n g. int_fine r (m *ℤ n) g) p q e
  applied_fine Add x y t u r p q e = of_ints Add (λ m n. int_result (m +ℤ n)) x y int_ty t u r (λ m n. refl) (λ m n g. int_fine r (m +ℤ n) g) p q e
  applied_fine Sub x y t u r p q e = of_ints Sub (λ m n. int_result (m -ℤ n)) x y int_ty t u r (λ m n. refl) (λ m n g. int_fine r (m -ℤ n) g) p q e
  applied_fine Lt x y t u r p q e = of_ints Lt _ x y bool_ty t u r (λ m n. refl) (λ m n g. ap Some g) p q e
  applied_fine Le x y t u r p q e = of_ints Le _ x y bool_ty t u r (λ m n. refl) (λ m n g. ap Some g) p q e
  applied_fine And x y t u r p q e = of_truths And (λ a b. a && b) x y t u r (λ a b. refl) p q e
  applied_fine Or x y t u r p q e = of_truths Or (λ a b. a || b) x y t u r (λ a b. refl) p q e
  applied_fine Eq x y t u r p q e = ap Some ((when_true _ bool_ty r e).1)

  decided_fine : (op : Op) (x : Value) (t u r : Ty) → decides op x ≡ true → op_type op t u ≡ Some r → IsOf kinds h r (Some (Ok x))
  decided_fine And (Truth b) t u r d e = ap Some ((operands_given bool_ty bool_ty t u r e).2)
  decided_fine Or (Truth b) t u r d e = ap Some ((operands_given bool_ty bool_ty t u r e).2)
  decided_fine op x t u r d e = absurd (false≢true d)

  then_fine : (t u : Ty) (a : Answer) (go : Value → Answer) → IsOf kinds h t a → ((v : Value) → type_of kinds h v ≡ Some t → IsOf kinds h u (go v)) → IsOf kinds h u (with_value a go)
  then_fine t u (Some (Ok v)) go p f = f v p
  then_fine t u (Some (Err e)) go p f = tt
  then_fine t u None go p f = absurd p

  either_fine : (b : Bool) (t : Ty) (x : Value) (a : Answer) → (b ≡ true → IsOf kinds h t (Some (Ok x))) → IsOf kinds h t a → IsOf kinds h t (if b then Some (Ok x) else a)
  either_fine true t x a p q = p refl
  either_fine false t x a p q = q

  literal_fine : (v : Value) (t : Ty) → literal_type v ≡ Some t → type_of kinds h v ≡ Some t
  literal_fine (Int n) t e = e
  literal_fine (Truth b) t e = e
  literal_fine Nil t e = e
  literal_fine (Var r) t e = absurd (cc)

  local_fine : (locals : List Value) (types : List Ty) (i : ℕ) (t : Ty) → HaveTypes kinds h locals types → slice_get types i ≡ Some t → IsOf kinds h t (option_map Ok (slice_get locals i))
  local_fine [] [] i t p e = absurd (cc)
  local_fine (v ∷ vs) [] i t p e = absurd p
  local_fine [] (u ∷ us) i t p e = absurd p
  local_fine (v ∷ vs) (u ∷ us) zero t p e = p.0 ∙ e
  local_fine (v ∷ vs) (u ∷ us) (suc i) t p e = local_fine vs us i t p.1 e

  pub expr_fine : (e : Term) (locals : List Value) (types : List Ty) (t : Ty) → HaveTypes kinds h locals types → expr_type kinds types e ≡ Some t → IsOf kinds h t (value e locals)
  expr_fine (lit v) locals types t p e = literal_fine v t e
  expr_fine (local i) locals types t p e = local_fine locals types i t p e
  expr_fine (global i) locals types t p e = e
  expr_fine (bin op a b) locals types r w e =
      let l = with_type_some _ _ r e in
      let m = with_type_some _ _ r l.2 in
      then_fine l.0 r (value a locals) _ (expr_fine a locals types l.0 w l.1)
      (λ x px. either_fine (decides op x) r x _ (λ d. decided_fine op x l.0 m.0 r d m.2)
      (then_fine m.0 r (value b locals) _ (expr_fine b locals types m.0 w m.1)
      (λ y py. applied_fine op x y l.0 m.0 r px py m.2)))
