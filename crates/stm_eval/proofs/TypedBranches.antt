-- All branches of a well typed action are defined, in every well typed view.
use Rattle.std.proofs.Common.{◌≡◌, ℕ, Bool, true, false, List, [], ◌∷◌, ◌++◌, ◌≤◌, ◌^◌, inl, arith, Some, None, Ok, Err, refl, sym, ap, ◌∙◌, subst}
use Rattle.stm_terms.specs.declared.kinds.Ty.{Ty}
use Rattle.stm_terms.specs.declared.values.Value.{Value}
use Rattle.stm_terms.specs.declared.values.Value.TheVariants.{Int, Bool as Truth}
use Rattle.stm_terms.specs.declared.values.Fault.TheVariants.{Thrown, Overflow}
use Rattle.stm_terms.specs.Ast.{Act, return, read, write, make, retry, throw, if_else, or_else, bind, let_in, seq, catch}
use Rattle.stm_terms.specs.Value.{Answer}
use Rattle.stm_terms.specs.Changes.{Variables, Changes, no_changes, cell_value}
use Rattle.stm_terms.specs.Semantics.{Outcome, Returned, Threw, Retried, Stuck}
use Rattle.stm_terms.specs.Typing.{TypeEnv, kinds_in, int_ty, bool_ty, type_of, ActionType, action_type, WellTyped, makes, HaveTypes}
use Rattle.stm_store.specs.Cells.{kinds_of, StoreIsTyped, Covers}
use Rattle.stm_check.proofs.ExpressionsSound.{IsOf, is_truth, same_ty_equal, with_type_some, expr_fine}
use Rattle.stm_check.proofs.ActionsSound.{if_some, with_result_some, with_bound_some, Extends, locals_kept, one_more, HasResult, Fine, run_fine, typed_not_stuck}
use Rattle.stm_check.proofs.Weakening.{action_more, covered, store_fine}
use Rattle.stm_eval.specs.BothBranches.{OnAnswer, OnCondition, OnReturn, OnThrow, AllBranchesDefined, CanRun}

module _ (kinds : TypeEnv) (under : Variables) where
  after_answer : (h : Changes) (t : Ty) (o : Answer) (go : Value → Type 0) → IsOf kinds h t o → ((v : Value) → type_of kinds h v ≡ Some t → go v) → OnAnswer o go
  after_answer h t (Some (Ok v)) go p f = f v p
  after_answer h t (Some (Err e)) go p f = tt
  after_answer h t None go p f = p

  one_of : (b : Bool) (A B : Type 0) → A → B → OnCondition (Truth b) A B
  one_of true A B p q = p
  one_of false A B p q = q

  after_choice : (h : Changes) (v : Value) (A B : Type 0) → type_of kinds h v ≡ Some bool_ty → A → B → OnCondition v A B
  after_choice h v A B e p q =
      let b = is_truth kinds h v e in subst (λ z. OnCondition z A B) (sym b.1) (one_of b.0 A B p q)

  after_run : (h : Changes) (s : ActionType) (o : Outcome) (go : Value → Changes → Type 0) → Fine kinds under h s o → ((v : Value) (k : Changes) → HasResult kinds under k s v → WellTyped kinds under k → Extends h k → go v k) → OnReturn o go
  after_run h s (Returned v k) go p f = f v k p.0 p.1 p.2
  after_run h s (Threw e) go p f = tt
  after_run h s Retried go p f = tt
  after_run h s Stuck go p f = p

  after_throw : (h : Changes) (s : ActionType) (o : Outcome) (go : Value → Type 0) → Fine kinds under h s o → ((n : Value) → type_of kinds h n ≡ Some int_ty → go n) → OnThrow o go
  after_throw h s (Returned v k) go p f = tt
  after_throw h s (Threw (Thrown n)) go p f = f (Int n) refl
  after_throw h s (Threw Overflow) go p f = tt
  after_throw h s Retried go p f = tt
  after_throw h s Stuck go p f = p

  pub all_defined : (a : Act) (locals : List Value) (types : List Ty) (h : Changes) (r : ActionType) → WellTyped kinds under h → HaveTypes kinds h locals types → action_type kinds types a ≡ Some r → AllBranchesDefined under a locals h
  all_defined (return e) locals types h r w l p = typed_not_stuck kinds under (return e) locals types h r w l p
  all_defined (read e) locals types h r w l p = typed_not_stuck kinds under (read e) locals types h r w l p
  all_defined (write x e) locals types h r w l p = typed_not_stuck kinds under (write x e) locals types h r w l p
  all_defined (make t e) locals types h r w l p = typed_not_stuck kinds under (make t e) locals types h r w l p
  all_defined retry locals types h r w l p = tt
  all_defined (throw e) locals types h r w l p = typed_not_stuck kinds under (throw e) locals types h r w l p
  all_defined (if_else e a b) locals types h r w l p =
      let t = with_type_some _ _ r p in
      let c = if_some _ _ r t.2 in
      let s = with_result_some _ _ r c.1 in
      let u = with_result_some _ _ r s.2 in
      after_answer h t.0 _ _ (expr_fine kinds h e locals types t.0 l t.1)
      (λ v q. after_choice h v _ _ (q ∙ ap Some (same_ty_equal t.0 bool_ty c.0)) (all_defined a locals types h s.0 w l s.1) (all_defined b locals types h u.0 w l u.1))
  all_defined (or_else a b) locals types h r w l p =
      let s = with_result_some _ _ r p in
      let u = with_result_some _ _ r s.2 in
      (all_defined a locals types h s.0 w l s.1, all_defined b locals types h u.0 w l u.1)
  all_defined (bind a b) locals types h r w l p =
      let s = with_result_some _ _ r p in
      let t = with_bound_some s.0 _ r s.2 in (
        all_defined a locals types h s.0 w l s.1,
        after_run h s.0 _ _ (run_fine kinds under a locals types h s.0 w l s.1)
            (λ v k q m x.
            let e : type_of kinds k v ≡ Some t.0 = subst (λ y. HasResult kinds under k y v) t.1 q in
            all_defined b (locals ++ v ∷ []) (types ++ t.0 ∷ []) k r m (one_more kinds k locals types v t.0 (locals_kept kinds h k x locals types l) e) t.2),
      )
  all_defined (let_in e b) locals types h r w l p =
      let t = with_type_some _ _ r p in
      after_answer h t.0 _ _ (expr_fine kinds h e locals types t.0 l t.1)
      (λ v q. all_defined b (locals ++ v ∷ []) (types ++ t.0 ∷ []) h r w (one_more kinds h locals types v t.0 l q) t.2)
  all_defined (seq a b) locals types h r w l p =
      let s = with_result_some _ _ r p in (
        all_defined a locals types h s.0 w l s.1,
        after_run h s.0 _ _ (run_fine kinds under a locals types h s.0 w l s.1)
            (λ v k q m x. all_defined b locals types k r m (locals_kept kinds h k x locals types l) s.2),
      )
  all_defined (catch a b) locals types h r w l p =
      let s = with_result_some _ _ r p in
      let u = with_result_some _ _ r s.2 in (
        all_defined a locals types h s.0 w l s.1,
        after_throw h s.0 _ _ (run_fine kinds under a locals types h s.0 w l s.1)
            (λ n q. all_defined b (locals ++ n ∷ []) (types ++ int_ty ∷ []) h u.0 w (one_more kinds h locals types n int_ty l q) u.1),
      )

-- so a well typed block can be run on a new log, over a well typed store that covers it
pub block_can_run : (cells : List (Ty × Value)) (uses : List (ℕ × Ty)) (a : Act) (r : ActionType) → StoreIsTyped cells → Covers cells uses → action_type (kinds_in uses) [] a ≡ Some r → makes a ≤ 2 ^ 32
    → CanRun (cell_value cells) a [] (record { top = no_changes; below = []; reads = [] })
block_can_run cells uses a r s c p few = record {
  defined = all_defined (kinds_of cells) (cell_value cells) a [] [] no_changes r (store_fine cells s) tt
      (action_more (kinds_in uses) (kinds_of cells) (covered cells uses c) a [] r p);
  room = omega (arith, few);
  reads = record { rising = tt; part = λ i. inl refl };
}
