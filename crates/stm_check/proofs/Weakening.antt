-- A well typed block is well typed where more variables are known, and so it has a verdict on each store that covers it.
use Rattle.std.proofs.Common.{◌≡◌, ◌≢◌, ℕ, Bool, true, false, List, [], ◌∷◌, ◌++◌, Option, Some, None, refl, ap, subst, ◌∙◌, eqb-true}
use Rattle.std.specs.Prelude.{nat_eq, slice_get, option_map, if◌then◌else◌}
use Rattle.stm_terms.specs.declared.kinds.Ty.{Ty}
use Rattle.stm_terms.specs.declared.values.Value.{Value}
use Rattle.stm_terms.specs.Ast.{Term, lit, local, global, bin}
use Rattle.stm_terms.specs.Ast.{Act, return, read, write, make, retry, throw, if_else, or_else, bind, let_in, seq, catch}
use Rattle.stm_terms.specs.Changes.{Variables, Changes, no_changes, cell_value}
use Rattle.stm_terms.specs.Semantics.{Outcome, Returned, Threw, Retried, Stuck, run}
use Rattle.stm_terms.specs.Typing.{TypeEnv, kinds_in, type_of, int_ty, var_ty, with_type, expr_type, ActionType, Gives, Any, with_result, with_bound, action_type, WellTyped}
use Rattle.stm_store.specs.Cells.{kinds_of, StoreIsTyped, Covers, CommitFits, Fits}
use Rattle.stm_check.proofs.ActionsSound.{typed_not_stuck, run_fine, Fine, HasResult}
use Rattle.stm_terms.specs.declared.verdicts.Verdict.{Verdict}
use Rattle.stm_terms.specs.declared.verdicts.Verdict.TheVariants.{Commits, Throws, Blocks}
use Rattle.stm_terms.specs.Verdict.{verdict_from, verdict}

type_then : {A : Type 0} (o p : Option Ty) (f g : Ty → Option A) (x : A) → ((t : Ty) → o ≡ Some t → p ≡ Some t) → ((t : Ty) → f t ≡ Some x → g t ≡ Some x) → with_type o f ≡ Some x → with_type p g ≡ Some x
type_then (Some t) p f g x h k e = ap (λ q. with_type q g) (h t refl) ∙ k t e
type_then None p f g x h k e = absurd (cc)

result_then : (o p : Option ActionType) (f g : ActionType → Option ActionType) (x : ActionType) → ((r : ActionType) → o ≡ Some r → p ≡ Some r) → ((r : ActionType) → f r ≡ Some x → g r ≡ Some x) → with_result o f ≡ Some x → with_result p g ≡ Some x
result_then (Some r) p f g x h k e = ap (λ q. with_result q g) (h r refl) ∙ k r e
result_then None p f g x h k e = absurd (cc)

bound_then : (r : ActionType) (f g : Ty → Option ActionType) (x : ActionType) → ((t : Ty) → f t ≡ Some x → g t ≡ Some x) → with_bound r f ≡ Some x → with_bound r g ≡ Some x
bound_then (Gives t) f g x k e = k t e
bound_then Any f g x k e = e

if_then : (b : Bool) (o p : Option ActionType) (x : ActionType) → (o ≡ Some x → p ≡ Some x) → (if b then o else None) ≡ Some x → (if b then p else None) ≡ Some x
if_then true o p x k e = k e
if_then false o p x k e = e

module _ (few more : TypeEnv) (known : (i : ℕ) (t : Ty) → few i ≡ Some t → more i ≡ Some t) where
  global_more : (i : ℕ) (o : Option Ty) (t : Ty) → few i ≡ o → option_map var_ty o ≡ Some t → option_map var_ty (more i) ≡ Some t
  global_more i (Some u) t h e = ap (λ q. option_map var_ty q) (known i u h) ∙ e
  global_more i None t h e = absurd (cc)

  expr_more : (e : Term) (locals : List Ty) (t : Ty) → expr_type few locals e ≡ Some t → expr_type more locals e ≡ Some t
  expr_more (lit v) locals t p = p
  expr_more (local i) locals t p = p
  expr_more (global i) locals t p = global_more i (few i) t refl p
  expr_more (bin op a b) locals t p =
      type_then _ _ _ _ t (expr_more a locals) (λ u. type_then _ _ _ _ t (expr_more b locals) (λ w q. q)) p

  pub action_more : (a : Act) (locals : List Ty) (r : ActionType) → action_type few locals a ≡ Some r → action_type more locals a ≡ Some r
  action_more (return e) locals r p = type_then _ _ _ _ r (expr_more e locals) (λ t q. q) p
  action_more (read e) locals r p = type_then _ _ _ _ r (expr_more e locals) (λ t q. q) p
  action_more (write a e) locals r p =
      type_then _ _ _ _ r (expr_more a locals) (λ t. type_then _ _ _ _ r (expr_more e locals) (λ u q. q)) p
  action_more (make t e) locals r p = type_then _ _ _ _ r (expr_more e locals) (λ u q. q) p
  action_more retry locals r p = p
  action_more (throw e) locals r p = type_then _ _ _ _ r (expr_more e locals) (λ t q. q) p
  action_more (if_else e a b) locals r p =
      type_then _ _ _ _ r (expr_more e locals)
      (λ t. if_then _ _ _ r (result_then _ _ _ _ r (action_more a locals) (λ s. result_then _ _ _ _ r (action_more b locals) (λ u q. q)))) p
  action_more (or_else a b) locals r p =
      result_then _ _ _ _ r (action_more a locals) (λ s. result_then _ _ _ _ r (action_more b locals) (λ u q. q)) p
  action_more (bind a b) locals r p =
      result_then _ _ _ _ r (action_more a locals) (λ s. bound_then s _ _ r (λ t. action_more b (locals ++ t ∷ []) r)) p
  action_more (let_in e b) locals r p =
      type_then _ _ _ _ r (expr_more e locals) (λ t. action_more b (locals ++ t ∷ []) r) p
  action_more (seq a b) locals r p =
      result_then _ _ _ _ r (action_more a locals) (λ s. action_more b locals r) p
  action_more (catch a b) locals r p =
      result_then _ _ _ _ r (action_more a locals) (λ s. result_then _ _ _ _ r (action_more b (locals ++ int_ty ∷ [])) (λ u q. q)) p

cell_of : (o : Option (Ty × Value)) (t : Ty) → option_map (λ c. c.0) o ≡ Some t → (c : Ty × Value) × (o ≡ Some c) × (c.0 ≡ t)
cell_of (Some c) t e = (c, refl, cc)
cell_of None t e = absurd (cc)

pub store_fine : (cells : List (Ty × Value)) → StoreIsTyped cells → WellTyped (kinds_of cells) (cell_value cells) no_changes
store_fine cells s = record {
  store = λ i t e. let c = cell_of (slice_get cells i) t e in (c.0.1, ap (λ o. option_map (λ x. x.1) o) c.1, s i c.0 c.1 ∙ ap Some c.2);
  writes = λ i v e. absurd (cc);
  rising = tt;
  news = λ k c e. absurd (cc);
}

-- a variable that a block names is one of the store's, with its type
pub covered : (cells : List (Ty × Value)) (uses : List (ℕ × Ty)) → Covers cells uses → (i : ℕ) (t : Ty) → kinds_in uses i ≡ Some t → kinds_of cells i ≡ Some t
covered cells [] c i t e = absurd (cc)
covered cells (u ∷ us) c i t e =
    elim (nat_eq u.0 i) as (λ b. nat_eq u.0 i ≡ b → (if b then Some u.1 else kinds_in us i) ≡ Some t → kinds_of cells i ≡ Some t) [
      | true ↦ λ at p. subst (λ j. kinds_of cells j ≡ Some t) (eqb-true u.0 i at) (c.0 ∙ p)
      | false ↦ λ at p. covered cells us c.1 i t p
    ] refl e

-- a well typed block is never stuck on a well typed store that covers it
pub block_defined : (cells : List (Ty × Value)) (uses : List (ℕ × Ty)) (a : Act) (r : ActionType) → StoreIsTyped cells → Covers cells uses → action_type (kinds_in uses) [] a ≡ Some r → run (cell_value cells) a [] no_changes ≢ Stuck
block_defined cells uses a r s c p =
    typed_not_stuck (kinds_of cells) (cell_value cells) a [] [] no_changes r (store_fine cells s) tt
    (action_more (kinds_in uses) (kinds_of cells) (covered cells uses c) a [] r p)

result_has_type : (kinds : TypeEnv) (under : Variables) (h : Changes) (r : ActionType) (v : Value) → HasResult kinds under h r v → (t : Ty) × (type_of kinds h v ≡ Some t)
result_has_type kinds under h (Gives t) v p = (t, p)
result_has_type kinds under h Any v p = absurd p

fits_at : (cells : List (Ty × Value)) (h : Changes) (r : ActionType) (o : Outcome) → Fine (kinds_of cells) (cell_value cells) h r o → (s : Verdict) → verdict_from o ≡ Some s → Fits cells s
unfolding Fits
fits_at cells h r (Returned v k) p s e =
    let is : Commits k.writes k.news v ≡ s = cc in
    let fits : CommitFits cells k.writes k.news v = record {
      rising = p.1.rising;
      writes = p.1.writes;
      news = p.1.news;
      result = result_has_type (kinds_of cells) (cell_value cells) k r v p.0;
    } in
    subst (Fits cells) is fits
fits_at cells h r (Threw f) p s e = let is : Throws f ≡ s = cc in subst (Fits cells) is tt
fits_at cells h r Retried p s e = let is : Blocks ≡ s = cc in subst (Fits cells) is tt
fits_at cells h r Stuck p s e = absurd p

-- and its verdict fits the store
pub verdict_fits : (cells : List (Ty × Value)) (uses : List (ℕ × Ty)) (a : Act) (r : ActionType) (s : Verdict) → StoreIsTyped cells → Covers cells uses → action_type (kinds_in uses) [] a ≡ Some r → verdict (cell_value cells) a ≡ Some s → Fits cells s
verdict_fits cells uses a r s w c p e =
    fits_at cells no_changes r _
    (run_fine (kinds_of cells) (cell_value cells) a [] [] no_changes r (store_fine cells w) tt (action_more (kinds_in uses) (kinds_of cells) (covered cells uses c) a [] r p)) s e
