-- A well typed action has an outcome, of its type, in every well typed view.
use Rattle.std.proofs.Common.{◌≡◌, ◌≢◌, ℕ, zero, suc, ◌<◌, ◌≤◌, Bool, true, false, List, [], ◌∷◌, ◌++◌, length, ◌⊎◌, inl, inr, Option, Some, None, Ok, Err, refl, ap, sym, ◌∙◌, subst, arith, eqb-true, ⊎_elim}
use Rattle.std.specs.Prelude.{slice_get, slice_set, option_map, nat_eq, nat_lt, nat_le, if◌then◌else◌, ⊤}
use Rattle.std.proofs.lemmas.Bool.Decides.{nat_tests}
use Rattle.std.proofs.lemmas.Bool.{ltb-false, ltb-true}
use Rattle.stm_terms.specs.declared.kinds.Ty.{Ty}
use Rattle.stm_terms.specs.declared.values.Ref.{Ref}
use Rattle.stm_terms.specs.declared.values.Ref.TheVariants.{Old, New}
use Rattle.stm_terms.specs.declared.values.Value.{Value}
use Rattle.stm_terms.specs.declared.values.Value.TheVariants.{Int, Bool as Truth, Unit as Nil, Var}
use Rattle.stm_terms.specs.declared.values.Fault.TheVariants.{Thrown, Overflow}
use Rattle.stm_terms.specs.Ast.{Act, return, read, write, make, retry, throw, if_else, or_else, bind, let_in, seq, catch}
use Rattle.stm_terms.specs.Value.{Answer}
use Rattle.stm_terms.specs.Changes.{Variables, Changes, find, put, first_of, view_at, written, cell_written, made}
use Rattle.stm_terms.specs.Semantics.{Outcome, Returned, Threw, Retried, Stuck, on_answer, then_run, catch_run, else_run, returned_value, returned_unit, read_at, write_at, thrown, chosen, run}
use Rattle.stm_terms.specs.Typing.{TypeEnv, int_ty, bool_ty, unit_ty, var_ty, deref_ty, same_ty, kind_of, type_of, with_type, ActionType, Gives, Any, join_types, with_result, with_bound, action_type, WellTyped, HaveTypes, AllAbove, Rising}
use Rattle.stm_check.proofs.ExpressionsSound.{IsOf, and_left, and_right, is_int, is_truth, same_ty_equal, when_true, with_type_some, expr_fine}

-- ---- options

some_or_none : {A : Type 0} (o : Option A) → (o ≡ None) ⊎ ((x : A) × (o ≡ Some x))
some_or_none None = inl refl
some_or_none (Some x) = inr (x, refl)

pub same_some : {A : Type 0} (x y : A) → Some x ≡ Some y → x ≡ y
same_some x y e = cc

pub mapped : {A B : Type 0} (f : A → B) (o : Option A) (t : B) → option_map f o ≡ Some t → (u : A) × (o ≡ Some u) × (f u ≡ t)
mapped f (Some u) t e = (u, refl, same_some _ _ e)
mapped f None t e = absurd (cc)

pub if_some : {A : Type 0} (b : Bool) (o : Option A) (r : A) → (if b then o else None) ≡ Some r → (b ≡ true) × (o ≡ Some r)
if_some true o r e = (refl, e)
if_some false o r e = absurd (cc)

pub with_result_some : (o : Option ActionType) (go : ActionType → Option ActionType) (r : ActionType) → with_result o go ≡ Some r → (s : ActionType) × (o ≡ Some s) × (go s ≡ Some r)
with_result_some (Some s) go r e = (s, refl, e)
with_result_some None go r e = absurd (cc)

pub with_bound_some : (s : ActionType) (go : Ty → Option ActionType) (r : ActionType) → with_bound s go ≡ Some r → (t : Ty) × (s ≡ Gives t) × (go t ≡ Some r)
with_bound_some (Gives t) go r e = (t, refl, e)
with_bound_some Any go r e = absurd (cc)

-- ---- lists

swapped : {A : Type 0} (n i j : ℕ) (x y z : A) → n < i → (if nat_eq n j then x else if nat_eq i j then y else z) ≡ (if nat_eq i j then y else if nat_eq n j then x else z)
swapped n i j x y z h = grind (arith, nat_tests)

shadowed : {A : Type 0} (n i j : ℕ) (x y z : A) → n ≡ i → (if nat_eq i j then y else z) ≡ (if nat_eq i j then y else if nat_eq n j then x else z)
shadowed n i j x y z h = grind (arith, nat_tests)

pub find-put : (i j : ℕ) (v : Value) (es : List (ℕ × Value)) → find j (put i v es) ≡ (if nat_eq i j then Some v else find j es)
find-put i j v [] = refl
find-put i j v (e ∷ es) =
    elim (nat_lt e.0 i) as (λ b. nat_lt e.0 i ≡ b → find j (if b then e ∷ put i v es else if nat_eq e.0 i then (i, v) ∷ es else (i, v) ∷ e ∷ es) ≡ (if nat_eq i j then Some v else if nat_eq e.0 j then Some e.1 else find j es)) [
      | true ↦ λ lt. ap (λ o. if nat_eq e.0 j then Some e.1 else o) (find-put i j v es) ∙ swapped e.0 i j _ _ _ (ltb-true e.0 i lt)
      | false ↦ λ _. elim (nat_eq e.0 i) as (λ b. nat_eq e.0 i ≡ b → find j (if b then (i, v) ∷ es else (i, v) ∷ e ∷ es) ≡ (if nat_eq i j then Some v else if nat_eq e.0 j then Some e.1 else find j es)) [
        | true ↦ λ same. shadowed e.0 i j _ _ _ (eqb-true e.0 i same)
        | false ↦ λ _. refl
      ] refl
    ] refl

at_most_8 : (n : ℕ) → nat_le n 8 ≡ true → n ≤ 8
at_most_8 n e = grind (arith, nat_tests)

below : (a b : ℕ) → b ≤ a → a ≢ b → b < a
below a b h e = omega arith

apart : (a b : ℕ) → nat_eq a b ≡ false → a ≢ b
apart a b e = grind (arith, nat_tests)

above_put : (n i : ℕ) (v : Value) (es : List (ℕ × Value)) → n < i → AllAbove n es → AllAbove n (put i v es)
above_put n i v [] h p = (h, tt)
above_put n i v (e ∷ es) h p =
    elim (nat_lt e.0 i) as (λ b. AllAbove n (if b then e ∷ put i v es else if nat_eq e.0 i then (i, v) ∷ es else (i, v) ∷ e ∷ es)) [
      | true ↦ (p.0, above_put n i v es h p.1)
      | false ↦ elim (nat_eq e.0 i) as (λ b. AllAbove n (if b then (i, v) ∷ es else (i, v) ∷ e ∷ es)) [ true ↦ (h, p.1) | false ↦ (h, p) ]
    ]

above_less : (m n : ℕ) (es : List (ℕ × Value)) → m ≤ n → AllAbove n es → AllAbove m es
above_less m n [] h p = tt
above_less m n (e ∷ es) h p = (omega (arith, p.0), above_less m n es h p.1)

rising-put : (i : ℕ) (v : Value) (es : List (ℕ × Value)) → Rising es → Rising (put i v es)
rising-put i v [] p = (tt, tt)
rising-put i v (e ∷ es) p =
    elim (nat_lt e.0 i) as (λ b. nat_lt e.0 i ≡ b → Rising (if b then e ∷ put i v es else if nat_eq e.0 i then (i, v) ∷ es else (i, v) ∷ e ∷ es)) [
      | true ↦ λ lt. (above_put e.0 i v es (ltb-true e.0 i lt) p.0, rising-put i v es p.1)
      | false ↦ λ ge. elim (nat_eq e.0 i) as (λ b. nat_eq e.0 i ≡ b → Rising (if b then (i, v) ∷ es else (i, v) ∷ e ∷ es)) [
        | true ↦ λ same. (subst (λ n. AllAbove n es) (eqb-true e.0 i same) p.0, p.1)
        | false ↦ λ other. let here : i < e.0 = below e.0 i (ltb-false e.0 i ge) (apart e.0 i other) in ((here, above_less i e.0 es (omega (arith, here)) p.0), p)
      ] refl
    ] refl

by_test : (b : Bool) (v w : Value) (o : Option Value) → (if b then Some v else o) ≡ Some w → ((b ≡ true) × (v ≡ w)) ⊎ (o ≡ Some w)
by_test true v w o e = inl (refl, same_some _ _ e)
by_test false v w o e = inr e

abbrev kind_at : List (Ty × Value) → ℕ → Option Ty
kind_at cells i = option_map (λ c. c.0) (slice_get cells i)

kinds-set : (cells : List (Ty × Value)) (k i : ℕ) (c : Ty × Value) (v : Value) → slice_get cells k ≡ Some c → kind_at (slice_set cells k (c.0, v)) i ≡ kind_at cells i
kinds-set [] k i c v e = refl
kinds-set (d ∷ ds) zero zero c v e = let p : d ≡ c = same_some _ _ e in ap (λ x. Some x.0) (sym p)
kinds-set (d ∷ ds) zero (suc i) c v e = refl
kinds-set (d ∷ ds) (suc k) zero c v e = refl
kinds-set (d ∷ ds) (suc k) (suc i) c v e = kinds-set ds k i c v e

get-set : (cells : List (Ty × Value)) (k i : ℕ) (x c : Ty × Value) → slice_get (slice_set cells k x) i ≡ Some c → (x ≡ c) ⊎ (slice_get cells i ≡ Some c)
get-set [] k i x c e = inr e
get-set (d ∷ ds) zero zero x c e = inl (same_some _ _ e)
get-set (d ∷ ds) zero (suc i) x c e = inr e
get-set (d ∷ ds) (suc k) zero x c e = inr e
get-set (d ∷ ds) (suc k) (suc i) x c e = get-set ds k i x c e

get-push : (cells : List (Ty × Value)) (i : ℕ) (x c : Ty × Value) → slice_get (cells ++ x ∷ []) i ≡ Some c → (x ≡ c) ⊎ (slice_get cells i ≡ Some c)
get-push [] zero x c e = inl (same_some _ _ e)
get-push [] (suc i) x c e = inr e
get-push (d ∷ ds) zero x c e = inr e
get-push (d ∷ ds) (suc i) x c e = get-push ds i x c e

kinds-push : (cells : List (Ty × Value)) (i : ℕ) (x : Ty × Value) (t : Ty) → kind_at cells i ≡ Some t → kind_at (cells ++ x ∷ []) i ≡ Some t
kinds-push [] i x t e = absurd (cc)
kinds-push (d ∷ ds) zero x t e = e
kinds-push (d ∷ ds) (suc i) x t e = kinds-push ds i x t e

kind_pushed : (cells : List (Ty × Value)) (x : Ty × Value) → kind_at (cells ++ x ∷ []) (length cells) ≡ Some x.0
kind_pushed [] x = refl
kind_pushed (d ∷ ds) x = kind_pushed ds x

-- ---- views

-- the cells made keep their types
abbrev pub Extends : Changes → Changes → Type 0
Extends h k = (i : ℕ) (t : Ty) → kind_at h.news i ≡ Some t → kind_at k.news i ≡ Some t

module _ (kinds : TypeEnv) where
  kept : (h k : Changes) → Extends h k → (v : Value) (t : Ty) → type_of kinds h v ≡ Some t → type_of kinds k v ≡ Some t
  kept h k x (Int n) t e = e
  kept h k x (Truth b) t e = e
  kept h k x Nil t e = e
  kept h k x (Var (Old i)) t e = e
  kept h k x (Var (New i)) t e =
      let m = mapped var_ty _ t e in ap (λ o. option_map var_ty o) (x i m.0 m.1) ∙ ap Some m.2

  pub locals_kept : (h k : Changes) → Extends h k → (vs : List Value) (ts : List Ty) → HaveTypes kinds h vs ts → HaveTypes kinds k vs ts
  locals_kept h k x [] [] p = tt
  locals_kept h k x (v ∷ vs) [] p = p
  locals_kept h k x [] (t ∷ ts) p = p
  locals_kept h k x (v ∷ vs) (t ∷ ts) p = (kept h k x v t p.0, locals_kept h k x vs ts p.1)

  pub one_more : (h : Changes) (vs : List Value) (ts : List Ty) (v : Value) (t : Ty) → HaveTypes kinds h vs ts → type_of kinds h v ≡ Some t → HaveTypes kinds h (vs ++ v ∷ []) (ts ++ t ∷ [])
  one_more h [] [] v t p e = (e, tt)
  one_more h (w ∷ vs) [] v t p e = absurd p
  one_more h [] (u ∷ ts) v t p e = absurd p
  one_more h (w ∷ vs) (u ∷ ts) v t p e = (p.0, one_more h vs ts v t p.1 e)

  is_var : (h : Changes) (v : Value) (t u : Ty) → type_of kinds h v ≡ Some t → deref_ty t ≡ Some u → (r : Ref) × (v ≡ Var r) × (kind_of kinds h r ≡ Some u)
  is_var h (Int n) t u p e = let q : None ≡ Some u = ap (λ o. with_type o deref_ty) p ∙ e in absurd (cc)
  is_var h (Truth b) t u p e = let q : None ≡ Some u = ap (λ o. with_type o deref_ty) p ∙ e in absurd (cc)
  is_var h Nil t u p e = let q : None ≡ Some u = ap (λ o. with_type o deref_ty) p ∙ e in absurd (cc)
  is_var h (Var r) t u p e =
      let m = mapped var_ty _ t p in
      let q : Some m.0 ≡ Some u = ap deref_ty m.2 ∙ e in
      (r, refl, m.1 ∙ q)

module _ (kinds : TypeEnv) (under : Variables) where
  seen_fine : (h : Changes) → WellTyped kinds under h → (r : Ref) (u : Ty) → kind_of kinds h r ≡ Some u → (v : Value) × (view_at under h r ≡ Some v) × (type_of kinds h v ≡ Some u)
  seen_fine h w (Old i) u e =
      ⊎_elim
      (λ none. let s = w.store i u e in (s.0, ap (λ o. first_of o (under i)) none ∙ s.1, s.2))
      (λ some. let s = w.writes i some.0 some.1 in (some.0, ap (λ o. first_of o (under i)) some.1, s.2 ∙ sym s.1 ∙ e))
      (some_or_none (find i h.writes))
  seen_fine h w (New k) u e =
      let m = mapped (λ c. c.0) (slice_get h.news k) u e in
      (m.0.1, ap (λ o. option_map (λ c. c.1) o) m.1, (w.news k m.0 m.1).0 ∙ ap Some m.2)

  same_kinds : (h k : Changes) → Extends h k → WellTyped kinds under h → (i : ℕ) (t : Ty) → kinds i ≡ Some t → (v : Value) × (under i ≡ Some v) × (type_of kinds k v ≡ Some t)
  same_kinds h k x w i t e = let s = w.store i t e in (s.0, s.1, kept kinds h k x s.0 t s.2)

  old_written : (h : Changes) (i : ℕ) (v : Value) (u : Ty) → WellTyped kinds under h → kinds i ≡ Some u → type_of kinds h v ≡ Some u → WellTyped kinds under (record h { writes = put i v h.writes })
  old_written h i v u w e p = record {
    store = w.store;
    writes = λ j x q.
        ⊎_elim
        (λ same. (u, ap kinds (sym (eqb-true i j same.0)) ∙ e, ap (type_of kinds h) (sym same.1) ∙ p))
        (λ other. w.writes j x other)
        (by_test (nat_eq i j) v x _ (sym (find-put i j v h.writes) ∙ q));
    rising = rising-put i v h.writes w.rising;
    news = w.news;
  }

  cell_fine : (h : Changes) (k : ℕ) (v : Value) (c : Ty × Value) → WellTyped kinds under h → slice_get h.news k ≡ Some c → type_of kinds h v ≡ Some c.0 → WellTyped kinds under (record h { news = slice_set h.news k (c.0, v) })
  cell_fine h k v c w e p =
      let h' : Changes = record h { news = slice_set h.news k (c.0, v) } in
      let x : Extends h h' = λ i t q. kinds-set h.news k i c v e ∙ q in
      record {
        store = same_kinds h h' x w;
        writes = λ j y q. let s = w.writes j y q in (s.0, s.1, kept kinds h h' x y s.0 s.2);
        rising = w.rising;
        news = λ j d q.
            ⊎_elim
            (λ same. (ap (λ z. type_of kinds h' z.1) (sym same) ∙ kept kinds h h' x v c.0 p ∙ ap (λ z. Some z.0) same, subst (λ z. z.0.refs ≤ 8) same (w.news k c e).1))
            (λ other. (kept kinds h h' x d.1 d.0 (w.news j d other).0, (w.news j d other).1))
            (get-set h.news k j (c.0, v) d q);
      }

  made_fine : (h : Changes) (t : Ty) (v : Value) → WellTyped kinds under h → t.refs ≤ 8 → type_of kinds h v ≡ Some t → WellTyped kinds under (made h t v) × Extends h (made h t v)
  made_fine h t v w small p =
      let x : Extends h (made h t v) = λ i u q. kinds-push h.news i (t, v) u q in (
        record {
          store = same_kinds h (made h t v) x w;
          writes = λ j y q. let s = w.writes j y q in (s.0, s.1, kept kinds h (made h t v) x y s.0 s.2);
          rising = w.rising;
          news = λ j d q.
              ⊎_elim
              (λ same. (ap (λ z. type_of kinds (made h t v) z.1) (sym same) ∙ kept kinds h (made h t v) x v t p ∙ ap (λ z. Some z.0) same, subst (λ z. z.0.refs ≤ 8) same small))
              (λ other. (kept kinds h (made h t v) x d.1 d.0 (w.news j d other).0, (w.news j d other).1))
              (get-push h.news j (t, v) d q);
        },
        x,
      )

  written_fine : (h : Changes) (r : Ref) (v : Value) (u : Ty) → WellTyped kinds under h → kind_of kinds h r ≡ Some u → type_of kinds h v ≡ Some u → (k : Changes) × (written h r v ≡ Some k) × WellTyped kinds under k × Extends h k
  written_fine h (Old i) v u w e p = (record h { writes = put i v h.writes }, refl, old_written h i v u w e p, λ i t q. q)
  written_fine h (New k) v u w e p =
      let m = mapped (λ c. c.0) (slice_get h.news k) u e in
      (record h { news = slice_set h.news k (m.0.0, v) }, ap (cell_written h k v) m.1, cell_fine h k v m.0 w m.1 (p ∙ ap Some (sym m.2)), λ i t q. kinds-set h.news k i m.0 v m.1 ∙ q)

  -- ---- actions

  abbrev pub HasResult : Changes → ActionType → Value → Type 0
  HasResult k (Gives t) v = type_of kinds k v ≡ Some t
  HasResult k Any v = ⊥

  -- an outcome is never stuck; a return is of the type, in a well typed view that has the cells from before
  abbrev pub Fine : Changes → ActionType → Outcome → Type 0
  Fine h r (Returned v k) = HasResult k r v × WellTyped kinds under k × Extends h k
  Fine h r (Threw f) = ⊤
  Fine h r Retried = ⊤
  Fine h r Stuck = ⊥

  answer_fine : (h : Changes) (t : Ty) (r : ActionType) (a : Answer) (go : Value → Outcome) → IsOf kinds h t a → ((v : Value) → type_of kinds h v ≡ Some t → Fine h r (go v)) → Fine h r (on_answer a go)
  answer_fine h t r (Some (Ok v)) go p f = f v p
  answer_fine h t r (Some (Err e)) go p f = tt
  answer_fine h t r None go p f = p

  return_fine : (h : Changes) (s r : ActionType) (o : Outcome) (go : Value → Changes → Outcome) → Fine h s o → ((v : Value) (k : Changes) → HasResult k s v → WellTyped kinds under k → Extends h k → Fine h r (go v k)) → Fine h r (then_run o go)
  return_fine h s r (Returned v k) go p f = f v k p.0 p.1 p.2
  return_fine h s r (Threw e) go p f = tt
  return_fine h s r Retried go p f = tt
  return_fine h s r Stuck go p f = p

  from_earlier : (h k : Changes) (r : ActionType) (o : Outcome) → Extends h k → Fine k r o → Fine h r o
  from_earlier h k r (Returned v l) x p = (p.0, p.1, λ i t q. p.2 i t (x i t q))
  from_earlier h k r (Threw e) x p = tt
  from_earlier h k r Retried x p = tt
  from_earlier h k r Stuck x p = p

  either_fine : (h : Changes) (r : ActionType) (a b : Outcome) → Fine h r a → Fine h r b → Fine h r (else_run a b)
  either_fine h r (Returned v k) b p q = p
  either_fine h r (Threw e) b p q = tt
  either_fine h r Retried b p q = q
  either_fine h r Stuck b p q = p

  caught_fine : (h : Changes) (r : ActionType) (o : Outcome) (handler : Value → Outcome) → Fine h r o → ((v : Value) → type_of kinds h v ≡ Some int_ty → Fine h r (handler v)) → Fine h r (catch_run o handler)
  caught_fine h r (Returned v k) handler p f = p
  caught_fine h r (Threw (Thrown n)) handler p f = f (Int n) refl
  caught_fine h r (Threw Overflow) handler p f = tt
  caught_fine h r Retried handler p f = tt
  caught_fine h r Stuck handler p f = p

  at_type : (h : Changes) (r q : ActionType) (o : Outcome) → ((k : Changes) (v : Value) → HasResult k r v → HasResult k q v) → Fine h r o → Fine h q o
  at_type h r q (Returned v k) f p = (f k v p.0, p.1, p.2)
  at_type h r q (Threw e) f p = tt
  at_type h r q Retried f p = tt
  at_type h r q Stuck f p = p

  from_left : (r s q : ActionType) → join_types r s ≡ Some q → (k : Changes) (v : Value) → HasResult k r v → HasResult k q v
  from_left Any s q e k v p = absurd p
  from_left (Gives t) Any q e k v p = subst (λ x. HasResult k x v) (same_some _ _ e) p
  from_left (Gives t) (Gives u) q e k v p = subst (λ x. HasResult k x v) ((when_true _ (Gives t) q e).1) p

  from_right : (r s q : ActionType) → join_types r s ≡ Some q → (k : Changes) (v : Value) → HasResult k s v → HasResult k q v
  from_right Any s q e k v p = subst (λ x. HasResult k x v) (same_some _ _ e) p
  from_right (Gives t) Any q e k v p = absurd p
  from_right (Gives t) (Gives u) q e k v p =
      let b = when_true _ (Gives t) q e in
      subst (λ x. HasResult k x v) b.1 (p ∙ ap Some (sym (same_ty_equal t u b.0)))

  read_fine : (h : Changes) (v : Value) (t u : Ty) → WellTyped kinds under h → type_of kinds h v ≡ Some t → deref_ty t ≡ Some u → Fine h (Gives u) (read_at under h v)
  read_fine h v t u w p e =
      let m = is_var kinds h v t u p e in
      let s = seen_fine h w m.0 u m.2 in
      subst (λ x. Fine h (Gives u) (read_at under h x)) (sym m.1)
      (subst (λ o. Fine h (Gives u) (returned_value o h)) (sym s.1) (s.2, w, λ i t q. q))

  write_fine : (h : Changes) (v x : Value) (t u : Ty) → WellTyped kinds under h → type_of kinds h v ≡ Some t → deref_ty t ≡ Some u → type_of kinds h x ≡ Some u → Fine h (Gives unit_ty) (write_at h v x)
  write_fine h v x t u w p e q =
      let m = is_var kinds h v t u p e in
      let s = written_fine h m.0 x u w m.2 q in
      subst (λ y. Fine h (Gives unit_ty) (write_at h y x)) (sym m.1)
      (subst (λ o. Fine h (Gives unit_ty) (returned_unit o)) (sym s.1) (refl, s.2, s.3))

  throw_fine : (h : Changes) (r : ActionType) (v : Value) → type_of kinds h v ≡ Some int_ty → Fine h r (thrown v)
  throw_fine h r v p = let n = is_int kinds h v p in subst (λ x. Fine h r (thrown x)) (sym n.1) tt

  one_of : (h : Changes) (r : ActionType) (b : Bool) (x y : Outcome) → Fine h r x → Fine h r y → Fine h r (chosen (Truth b) x y)
  one_of h r true x y p q = p
  one_of h r false x y p q = q

  chosen_fine : (h : Changes) (r : ActionType) (v : Value) (x y : Outcome) → type_of kinds h v ≡ Some bool_ty → Fine h r x → Fine h r y → Fine h r (chosen v x y)
  chosen_fine h r v x y e p q =
      let b = is_truth kinds h v e in subst (λ z. Fine h r (chosen z x y)) (sym b.1) (one_of h r b.0 x y p q)

  pub run_fine : (a : Act) (locals : List Value) (types : List Ty) (h : Changes) (r : ActionType) → WellTyped kinds under h → HaveTypes kinds h locals types → action_type kinds types a ≡ Some r → Fine h r (run under a locals h)
  run_fine (return e) locals types h r w l p =
      let t = with_type_some _ _ r p in
      answer_fine h t.0 r _ _ (expr_fine kinds h e locals types t.0 l t.1)
      (λ v q. (subst (λ x. HasResult h x v) (same_some _ _ t.2) q, w, λ i t q. q))
  run_fine (read e) locals types h r w l p =
      let t = with_type_some _ _ r p in
      let u = with_type_some _ _ r t.2 in
      answer_fine h t.0 r _ _ (expr_fine kinds h e locals types t.0 l t.1)
      (λ v q. subst (λ x. Fine h x (read_at under h v)) (same_some _ _ u.2) (read_fine h v t.0 u.0 w q u.1))
  run_fine (write a e) locals types h r w l p =
      let t = with_type_some _ _ r p in
      let u = with_type_some _ _ r t.2 in
      let b = when_true _ (Gives unit_ty) r u.2 in
      let i : deref_ty t.0 ≡ Some u.0 = ap deref_ty (same_ty_equal t.0 (var_ty u.0) b.0) in
      answer_fine h t.0 r _ _ (expr_fine kinds h a locals types t.0 l t.1)
      (λ v q. answer_fine h u.0 r _ _ (expr_fine kinds h e locals types u.0 l u.1)
      (λ x m. subst (λ y. Fine h y (write_at h v x)) b.1 (write_fine h v x t.0 u.0 w q i m)))
  run_fine (make t e) locals types h r w l p =
      let u = with_type_some _ _ r p in
      let b = when_true _ (Gives (var_ty t)) r u.2 in
      let same : t ≡ u.0 = same_ty_equal t u.0 (and_left (same_ty t u.0) (nat_le t.refs 8) b.0) in
      answer_fine h u.0 r _ _ (expr_fine kinds h e locals types u.0 l u.1)
      (λ v q.
      let m = made_fine h t v w (at_most_8 t.refs (and_right (same_ty t u.0) (nat_le t.refs 8) b.0)) (q ∙ ap Some (sym same)) in
      subst (λ y. Fine h y (Returned (Var (New (length h.news))) (made h t v))) b.1
      (ap (λ o. option_map var_ty o) (kind_pushed h.news (t, v)), m.0, m.1))
  run_fine retry locals types h r w l p = tt
  run_fine (throw e) locals types h r w l p =
      let t = with_type_some _ _ r p in
      let b = when_true _ Any r t.2 in
      answer_fine h t.0 r _ _ (expr_fine kinds h e locals types t.0 l t.1)
      (λ v q. throw_fine h r v (q ∙ ap Some (same_ty_equal t.0 int_ty b.0)))
  run_fine (if_else e a b) locals types h r w l p =
      let t = with_type_some _ _ r p in
      let c = if_some _ _ r t.2 in
      let s = with_result_some _ _ r c.1 in
      let u = with_result_some _ _ r s.2 in
      answer_fine h t.0 r _ _ (expr_fine kinds h e locals types t.0 l t.1)
      (λ v q. chosen_fine h r v _ _ (q ∙ ap Some (same_ty_equal t.0 bool_ty c.0))
      (at_type h s.0 r _ (from_left s.0 u.0 r u.2) (run_fine a locals types h s.0 w l s.1))
      (at_type h u.0 r _ (from_right s.0 u.0 r u.2) (run_fine b locals types h u.0 w l u.1)))
  run_fine (or_else a b) locals types h r w l p =
      let s = with_result_some _ _ r p in
      let u = with_result_some _ _ r s.2 in
      either_fine h r _ _
      (at_type h s.0 r _ (from_left s.0 u.0 r u.2) (run_fine a locals types h s.0 w l s.1))
      (at_type h u.0 r _ (from_right s.0 u.0 r u.2) (run_fine b locals types h u.0 w l u.1))
  run_fine (bind a b) locals types h r w l p =
      let s = with_result_some _ _ r p in
      let t = with_bound_some s.0 _ r s.2 in
      return_fine h s.0 r _ _ (run_fine a locals types h s.0 w l s.1)
      (λ v k q m x.
      let e : type_of kinds k v ≡ Some t.0 = subst (λ y. HasResult k y v) t.1 q in
      from_earlier h k r _ x
      (run_fine b (locals ++ v ∷ []) (types ++ t.0 ∷ []) k r m (one_more kinds k locals types v t.0 (locals_kept kinds h k x locals types l) e) t.2))
  run_fine (let_in e b) locals types h r w l p =
      let t = with_type_some _ _ r p in
      answer_fine h t.0 r _ _ (expr_fine kinds h e locals types t.0 l t.1)
      (λ v q. run_fine b (locals ++ v ∷ []) (types ++ t.0 ∷ []) h r w (one_more kinds h locals types v t.0 l q) t.2)
  run_fine (seq a b) locals types h r w l p =
      let s = with_result_some _ _ r p in
      return_fine h s.0 r _ _ (run_fine a locals types h s.0 w l s.1)
      (λ v k q m x. from_earlier h k r _ x (run_fine b locals types k r m (locals_kept kinds h k x locals types l) s.2))
  run_fine (catch a b) locals types h r w l p =
      let s = with_result_some _ _ r p in
      let u = with_result_some _ _ r s.2 in
      caught_fine h r _ _
      (at_type h s.0 r _ (from_left s.0 u.0 r u.2) (run_fine a locals types h s.0 w l s.1))
      (λ v q. at_type h u.0 r _ (from_right s.0 u.0 r u.2)
      (run_fine b (locals ++ v ∷ []) (types ++ int_ty ∷ []) h u.0 w (one_more kinds h locals types v int_ty l q) u.1))

  not_stuck : (h : Changes) (r : ActionType) (o : Outcome) → Fine h r o → o ≢ Stuck
  not_stuck h r (Returned v k) p e = cc
  not_stuck h r (Threw f) p e = cc
  not_stuck h r Retried p e = cc
  not_stuck h r Stuck p e = p

  pub typed_not_stuck : (a : Act) (locals : List Value) (types : List Ty) (h : Changes) (r : ActionType) → WellTyped kinds under h → HaveTypes kinds h locals types → action_type kinds types a ≡ Some r → run under a locals h ≢ Stuck
  typed_not_stuck a locals types h r w l p = not_stuck h r _ (run_fine a locals types h r w l p)
