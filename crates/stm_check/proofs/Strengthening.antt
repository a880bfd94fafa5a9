-- The types of the variables that a block names are enough for its typing.
use Rattle.std.proofs.Common.{◌≡◌, ℕ, Bool, true, false, List, [], ◌∷◌, ◌++◌, Option, Some, None, refl, ap, ◌∙◌, sym, ◌⊎◌, inl, inr}
use Rattle.std.specs.Prelude.{nat_eq, option_map, if◌then◌else◌, ⊤}
use Rattle.std.proofs.lemmas.Bool.{eqb-true, eq-eqb}
use Rattle.stm_terms.specs.declared.kinds.Ty.{Ty}
use Rattle.stm_terms.specs.Ast.{Term, lit, local, global, bin, Act, return, read, write, make, retry, throw, if_else, or_else, bind, let_in, seq, catch}
use Rattle.stm_terms.specs.Typing.{TypeEnv, var_ty, with_type, int_ty, expr_type, ActionType, Gives, Any, with_result, with_bound, action_type, kinds_in, named_in, named, record_use_as, record_use, record_uses, uses_of}

-- at each of these variables both say the same
abbrev pub AgreeAt : TypeEnv → TypeEnv → List ℕ → Type 0
AgreeAt k m [] = ⊤
AgreeAt k m (i ∷ is) = (m i ≡ k i) × AgreeAt k m is

agree_left : (k m : TypeEnv) (is js : List ℕ) → AgreeAt k m (is ++ js) → AgreeAt k m is
agree_left k m [] js h = tt
agree_left k m (i ∷ is) js h = (h.0, agree_left k m is js h.1)

agree_right : (k m : TypeEnv) (is js : List ℕ) → AgreeAt k m (is ++ js) → AgreeAt k m js
agree_right k m [] js h = h
agree_right k m (i ∷ is) js h = agree_right k m is js h.1

module _ (k m : TypeEnv) where
  expr_same : (e : Term) (locals : List Ty) → AgreeAt k m (named_in e) → expr_type m locals e ≡ expr_type k locals e
  expr_same (lit v) locals h = refl
  expr_same (local i) locals h = refl
  expr_same (global i) locals h = ap (option_map var_ty) h.0
  expr_same (bin op a b) locals h =
      rw (expr_same a locals (agree_left k m (named_in a) (named_in b) h), expr_same b locals (agree_right k m (named_in a) (named_in b) h)) refl

  -- what comes after a part is the same for each type of the part
  bound_same : (o : Option ActionType) (f g : Ty → Option ActionType) → ((t : Ty) → f t ≡ g t) → with_result o (λ r. with_bound r f) ≡ with_result o (λ r. with_bound r g)
  bound_same (Some (Gives t)) f g h = h t
  bound_same (Some Any) f g h = refl
  bound_same None f g h = refl

  let_same : (o : Option Ty) (f g : Ty → Option ActionType) → ((t : Ty) → f t ≡ g t) → with_type o f ≡ with_type o g
  let_same (Some t) f g h = h t
  let_same None f g h = refl

  pub act_same : (a : Act) (locals : List Ty) → AgreeAt k m (named a) → action_type m locals a ≡ action_type k locals a
  act_same (return e) locals h = rw (expr_same e locals h) refl
  act_same (read e) locals h = rw (expr_same e locals h) refl
  act_same (write r e) locals h =
      rw (expr_same r locals (agree_left k m (named_in r) (named_in e) h), expr_same e locals (agree_right k m (named_in r) (named_in e) h)) refl
  act_same (make t e) locals h = rw (expr_same e locals h) refl
  act_same retry locals h = refl
  act_same (throw e) locals h = rw (expr_same e locals h) refl
  act_same (if_else e a b) locals h =
      let ea = agree_left k m (named_in e ++ named a) (named b) h in
      rw (
        expr_same e locals (agree_left k m (named_in e) (named a) ea),
        act_same a locals (agree_right k m (named_in e) (named a) ea),
        act_same b locals (agree_right k m (named_in e ++ named a) (named b) h),
      ) refl
  act_same (or_else a b) locals h =
      rw (act_same a locals (agree_left k m (named a) (named b) h), act_same b locals (agree_right k m (named a) (named b) h)) refl
  act_same (bind a b) locals h =
      rw (act_same a locals (agree_left k m (named a) (named b) h))
      (bound_same (action_type k locals a) _ _ (λ t. act_same b (locals ++ t ∷ []) (agree_right k m (named a) (named b) h)))
  act_same (let_in e b) locals h =
      rw (expr_same e locals (agree_left k m (named_in e) (named b) h))
      (let_same (expr_type k locals e) _ _ (λ t. act_same b (locals ++ t ∷ []) (agree_right k m (named_in e) (named b) h)))
  act_same (seq a b) locals h =
      rw (act_same a locals (agree_left k m (named a) (named b) h), act_same b locals (agree_right k m (named a) (named b) h)) refl
  act_same (catch a b) locals h =
      rw (act_same a locals (agree_left k m (named a) (named b) h), act_same b (locals ++ int_ty ∷ []) (agree_right k m (named a) (named b) h)) refl

pub nat_test : (m n : ℕ) → ((m ≡ n) × (nat_eq m n ≡ true)) ⊎ (nat_eq m n ≡ false)
nat_test m n = elim (nat_eq m n) as (λ b. nat_eq m n ≡ b → ((m ≡ n) × (nat_eq m n ≡ true)) ⊎ (nat_eq m n ≡ false)) [ true ↦ λ e. inl (eqb-true m n e, e) | false ↦ λ e. inr e ] refl

-- what is known stays known, with its type, and what is added has the type that it has in k
find_end : (us : List (ℕ × Ty)) (i j : ℕ) (t u : Ty) → kinds_in us j ≡ Some u → kinds_in (us ++ (i, t) ∷ []) j ≡ Some u
find_end [] i j t u e = absurd (cc)
find_end (w ∷ us) i j t u e = pass (nat_eq w.0 j) (kinds_in us j) (kinds_in (us ++ (i, t) ∷ []) j) e (find_end us i j t u)
  where
    pass : (b : Bool) (o p : Option Ty) → (if b then Some w.1 else o) ≡ Some u → (o ≡ Some u → p ≡ Some u) → (if b then Some w.1 else p) ≡ Some u
    pass true o p e h = e
    pass false o p e h = h e

find_new : (us : List (ℕ × Ty)) (i : ℕ) (t : Ty) → kinds_in us i ≡ None → kinds_in (us ++ (i, t) ∷ []) i ≡ Some t
find_new [] i t e = rw (eq-eqb i i refl) refl
find_new (w ∷ us) i t e = pass (nat_eq w.0 i) (kinds_in us i) (kinds_in (us ++ (i, t) ∷ []) i) e (find_new us i t)
  where
    pass : (b : Bool) (o p : Option Ty) → (if b then Some w.1 else o) ≡ None → (o ≡ None → p ≡ Some t) → (if b then Some w.1 else p) ≡ Some t
    pass true o p e h = absurd (cc)
    pass false o p e h = h e

-- what is found at the longer list was there, or is what was added
find_split : (us : List (ℕ × Ty)) (i j : ℕ) (t u : Ty) → kinds_in (us ++ (i, t) ∷ []) j ≡ Some u → (kinds_in us j ≡ Some u) ⊎ ((i ≡ j) × (t ≡ u))
find_split [] i j t u e = last (nat_eq i j) refl e
  where
    last : (b : Bool) → nat_eq i j ≡ b → (if b then Some t else None) ≡ Some u → (None ≡ Some u) ⊎ ((i ≡ j) × (t ≡ u))
    last true q f = let p : t ≡ u = cc in inr (eqb-true i j q, p)
    last false q f = absurd (cc)
find_split (w ∷ us) i j t u e = pass (nat_eq w.0 j) (kinds_in us j) (kinds_in (us ++ (i, t) ∷ []) j) e (find_split us i j t u)
  where
    pass : (b : Bool) (o p : Option Ty) → (if b then Some w.1 else p) ≡ Some u → (p ≡ Some u → (o ≡ Some u) ⊎ ((i ≡ j) × (t ≡ u))) → ((if b then Some w.1 else o) ≡ Some u) ⊎ ((i ≡ j) × (t ≡ u))
    pass true o p f h = inl f
    pass false o p f h = h f

module _ (k : TypeEnv) where
  -- what is listed has its type in k
  abbrev Right : List (ℕ × Ty) → Type 0
  Right us = (j : ℕ) (u : Ty) → kinds_in us j ≡ Some u → k j ≡ Some u

  right_as : (o p : Option Ty) (i : ℕ) (us : List (ℕ × Ty)) → k i ≡ p → Right us → Right (record_use_as o p i us)
  right_as (Some u) p i us e h = h
  right_as None None i us e h = h
  right_as None (Some t) i us e h = λ j u f. split j u (find_split us i j t u f)
    where
      split : (j : ℕ) (u : Ty) → (kinds_in us j ≡ Some u) ⊎ ((i ≡ j) × (t ≡ u)) → k j ≡ Some u
      split j u (inl q) = h j u q
      split j u (inr q) = ap k (sym q.0) ∙ e ∙ ap Some q.1

  keeps_as : (o p : Option Ty) (i j : ℕ) (u : Ty) (us : List (ℕ × Ty)) → kinds_in us j ≡ Some u → kinds_in (record_use_as o p i us) j ≡ Some u
  keeps_as (Some w) p i j u us e = e
  keeps_as None None i j u us e = e
  keeps_as None (Some t) i j u us e = find_end us i j t u e

  has_as : (o : Option Ty) (i : ℕ) (t : Ty) (us : List (ℕ × Ty)) → kinds_in us i ≡ o → k i ≡ Some t → Right us → kinds_in (record_use_as o (Some t) i us) i ≡ Some t
  has_as (Some u) i t us e f h = e ∙ sym (h i u e) ∙ f
  has_as None i t us e f h = find_new us i t e

  right_all : (is : List ℕ) (us : List (ℕ × Ty)) → Right us → Right (record_uses k is us)
  right_all [] us h = h
  right_all (i ∷ is) us h = right_all is (record_use k i us) (right_as (kinds_in us i) (k i) i us refl h)

  keeps_all : (is : List ℕ) (us : List (ℕ × Ty)) (j : ℕ) (u : Ty) → kinds_in us j ≡ Some u → kinds_in (record_uses k is us) j ≡ Some u
  keeps_all [] us j u e = e
  keeps_all (i ∷ is) us j u e = keeps_all is (record_use k i us) j u (keeps_as (kinds_in us i) (k i) i j u us e)

  -- a variable that has no type in k isn't listed, and one that has is listed with it
  agree_one : (o p : Option Ty) → ((u : Ty) → o ≡ Some u → p ≡ Some u) → ((t : Ty) → p ≡ Some t → o ≡ Some t) → o ≡ p
  agree_one (Some u) p f g = sym (f u refl)
  agree_one None (Some t) f g = g t refl
  agree_one None None f g = refl

  listed : (i : ℕ) (is : List ℕ) (us : List (ℕ × Ty)) → Right us → (o : Option Ty) → k i ≡ o → (t : Ty) → o ≡ Some t → kinds_in (record_uses k is (record_use_as (kinds_in us i) o i us)) i ≡ Some t
  listed i is us h (Some w) e t f =
      keeps_all is (record_use_as (kinds_in us i) (Some w) i us) i t (has_as (kinds_in us i) i w us refl e h ∙ f)
  listed i is us h None e t f = absurd (cc)

  pub agree : (is : List ℕ) (us : List (ℕ × Ty)) → Right us → AgreeAt k (kinds_in (record_uses k is us)) is
  agree [] us h = tt
  agree (i ∷ is) us h = (
    agree_one (kinds_in (record_uses k is (record_use k i us)) i) (k i) (λ u e. right_all (i ∷ is) us h i u e) (λ t e. listed i is us h (k i) refl t e),
    agree is (record_use k i us) (right_as (kinds_in us i) (k i) i us refl h),
  )

-- an action has its type under the types of the variables that it names
pub typed_by_uses : (k : TypeEnv) (a : Act) (r : ActionType) → action_type k [] a ≡ Some r → action_type (kinds_in (uses_of k a)) [] a ≡ Some r
typed_by_uses k a r e = act_same k (kinds_in (uses_of k a)) a [] (agree k (named a) [] (λ j u f. absurd (cc))) ∙ e
