-- A typed block that begins on a store has the names of the store's variables.
use Rattle.std.proofs.Common.{◌≡◌, ℕ, List, [], ◌∷◌, ◌++◌, Some, None, refl, ap, sym, ◌∙◌}
use Rattle.std.specs.Prelude.{slice_get, option_map, if◌then◌else◌}
use Rattle.stm_terms.specs.declared.kinds.Ty.{Ty}
use Rattle.stm_terms.specs.declared.values.Ref.{Ref}
use Rattle.stm_terms.specs.declared.values.Ref.TheVariants.{Old, New}
use Rattle.stm_terms.specs.declared.values.Value.{Value}
use Rattle.stm_terms.specs.declared.values.Value.TheVariants.{Int, Bool as Truth, Unit as Nil, Var}
use Rattle.stm_terms.specs.Ast.{Term, lit, local, global, bin, Act, return, read, write, make, retry, throw, if_else, or_else, bind, let_in, seq, catch}
use Rattle.stm_terms.specs.Changes.{cell_value, no_changes}
use Rattle.stm_terms.specs.Typing.{int_ty, bool_ty, var_ty, same_ty, type_of, literal_type, expr_type, op_type, with_type, ActionType, Gives, join_types, with_result, when, action_type}
use Rattle.stm_store.specs.Cells.{kinds_of, StoreIsTyped}
use Rattle.stm_check.proofs.ExpressionsSound.{with_type_some}
use Rattle.stm_check.proofs.ActionsSound.{mapped, if_some, with_result_some, with_bound_some}
use Rattle.stm_paper_laws.specs.Laws.{heap_of, Naming, IsSame, same_int, same_truth, same_unit, same_var}
use Rattle.stm_paper_laws.proofs.Names.{IsRenamed}
use Rattle.stm_paper_laws.proofs.LikeRuns.{LikeTerm, like_lit, like_local, like_global, like_bin, Like, like_return, like_read, like_write, like_make, like_retry, like_throw, like_if, like_or, like_bind, like_let, like_seq, like_catch}

module _ (cells : List (Ty × Value)) where
  -- the variables of the store have their own names
  abbrev pub own_names : Naming
  own_names (Old i) = option_map (λ c. Old i) (slice_get cells i)
  own_names (New k) = None

  named_own : (i : ℕ) (t : Ty) → kinds_of cells i ≡ Some t → own_names (Old i) ≡ Some (Old i)
  named_own i t e = let m = mapped (λ c. c.0) (slice_get cells i) t e in ap (λ o. option_map (λ c. Old i) o) m.1

  same_self : (v : Value) (t : Ty) → type_of (kinds_of cells) no_changes v ≡ Some t → IsSame own_names v v
  same_self (Int n) t e = same_int
  same_self (Truth b) t e = same_truth
  same_self Nil t e = same_unit
  same_self (Var (Old i)) t e = let m = mapped var_ty (kinds_of cells i) t e in same_var (named_own i m.0 m.1)
  same_self (Var (New k)) t e = absurd (cc)

  literal_self : (v : Value) (t : Ty) → literal_type v ≡ Some t → IsSame own_names v v
  literal_self (Int n) t e = same_int
  literal_self (Truth b) t e = same_truth
  literal_self Nil t e = same_unit
  literal_self (Var r) t e = absurd (cc)

  pub term_self : (e : Term) (types : List Ty) (t : Ty) → expr_type (kinds_of cells) types e ≡ Some t → LikeTerm own_names e e
  term_self (lit v) types t e = like_lit (literal_self v t e)
  term_self (local i) types t e = like_local
  term_self (global i) types t e = let m = mapped var_ty (kinds_of cells i) t e in like_global (named_own i m.0 m.1)
  term_self (bin op a b) types t e =
      let l = with_type_some (expr_type (kinds_of cells) types a) (λ x. with_type (expr_type (kinds_of cells) types b) (op_type op x)) t e in
      let m = with_type_some (expr_type (kinds_of cells) types b) (op_type op l.0) t l.2 in
      like_bin (term_self a types l.0 l.1) (term_self b types m.0 m.1)

  pub act_self : (a : Act) (types : List Ty) (r : ActionType) → action_type (kinds_of cells) types a ≡ Some r → Like own_names a a
  act_self (return e) types r p = let t = with_type_some (expr_type (kinds_of cells) types e) _ r p in like_return (term_self e types t.0 t.1)
  act_self (read e) types r p = let t = with_type_some (expr_type (kinds_of cells) types e) _ r p in like_read (term_self e types t.0 t.1)
  act_self (write x e) types r p =
      let t = with_type_some (expr_type (kinds_of cells) types x) (λ t. with_type (expr_type (kinds_of cells) types e) (λ u. when (same_ty t (var_ty u)) (Gives _))) r p in
      let u = with_type_some (expr_type (kinds_of cells) types e) _ r t.2 in
      like_write (term_self x types t.0 t.1) (term_self e types u.0 u.1)
  act_self (make t e) types r p = let u = with_type_some (expr_type (kinds_of cells) types e) _ r p in like_make (term_self e types u.0 u.1)
  act_self retry types r p = like_retry
  act_self (throw e) types r p = let t = with_type_some (expr_type (kinds_of cells) types e) _ r p in like_throw (term_self e types t.0 t.1)
  act_self (if_else e a b) types r p =
      let t = with_type_some (expr_type (kinds_of cells) types e) (λ t. if same_ty t bool_ty then with_result (action_type (kinds_of cells) types a) (λ q. with_result (action_type (kinds_of cells) types b) (join_types q)) else None) r p in
      let c = if_some (same_ty t.0 bool_ty) _ r t.2 in
      let s = with_result_some (action_type (kinds_of cells) types a) (λ q. with_result (action_type (kinds_of cells) types b) (join_types q)) r c.1 in
      let u = with_result_some (action_type (kinds_of cells) types b) (join_types s.0) r s.2 in
      like_if (term_self e types t.0 t.1) (act_self a types s.0 s.1) (act_self b types u.0 u.1)
  act_self (or_else a b) types r p =
      let s = with_result_some (action_type (kinds_of cells) types a) (λ q. with_result (action_type (kinds_of cells) types b) (join_types q)) r p in
      let u = with_result_some (action_type (kinds_of cells) types b) (join_types s.0) r s.2 in
      like_or (act_self a types s.0 s.1) (act_self b types u.0 u.1)
  act_self (bind a b) types r p =
      let s = with_result_some (action_type (kinds_of cells) types a) _ r p in
      let t = with_bound_some s.0 (λ t. action_type (kinds_of cells) (types ++ t ∷ []) b) r s.2 in
      like_bind (act_self a types s.0 s.1) (act_self b (types ++ t.0 ∷ []) r t.2)
  act_self (let_in e b) types r p =
      let t = with_type_some (expr_type (kinds_of cells) types e) (λ t. action_type (kinds_of cells) (types ++ t ∷ []) b) r p in
      like_let (term_self e types t.0 t.1) (act_self b (types ++ t.0 ∷ []) r t.2)
  act_self (seq a b) types r p =
      let s = with_result_some (action_type (kinds_of cells) types a) (λ q. action_type (kinds_of cells) types b) r p in
      like_seq (act_self a types s.0 s.1) (act_self b types r s.2)
  act_self (catch a b) types r p =
      let s = with_result_some (action_type (kinds_of cells) types a) (λ q. with_result (action_type (kinds_of cells) (types ++ int_ty ∷ []) b) (join_types q)) r p in
      let u = with_result_some (action_type (kinds_of cells) (types ++ int_ty ∷ []) b) (join_types s.0) r s.2 in
      like_catch (act_self a types s.0 s.1) (act_self b (types ++ int_ty ∷ []) u.0 u.1)

  named_itself : (r s : Ref) → own_names r ≡ Some s → r ≡ s
  named_itself (Old i) s e = (mapped (λ c. Old i) (slice_get cells i) s e).2
  named_itself (New k) s e = absurd (cc)

  held_itself : StoreIsTyped cells → (r : Ref) → own_names r ≡ Some r → (v : Value) × (heap_of (cell_value cells) no_changes r ≡ Some v) × IsSame own_names v v
  held_itself t (Old i) e = let m = mapped (λ c. Old i) (slice_get cells i) (Old i) e in (m.0.1, ap (λ o. option_map (λ c. c.1) o) m.1, same_self m.0.1 m.0.0 (t i m.0 m.1))
  held_itself t (New k) e = absurd (cc)

  pub keeps_own : (i : ℕ) (v : Value) → cell_value cells i ≡ Some v → own_names (Old i) ≡ Some (Old i)
  keeps_own i v e = let m = mapped (λ c. c.1) (slice_get cells i) v e in ap (λ o. option_map (λ c. Old i) o) m.1

  all_named : (r : Ref) (v : Value) → heap_of (cell_value cells) no_changes r ≡ Some v → own_names r ≡ Some r
  all_named (Old i) v e = keeps_own i v e
  all_named (New k) v e = absurd (cc)

  pub renamed_self : StoreIsTyped cells → IsRenamed own_names (heap_of (cell_value cells) no_changes) [] (heap_of (cell_value cells) no_changes) []
  renamed_self t = record {
    news = λ k. refl;
    types_are = refl;
    apart = λ q r s e f. named_itself q s e ∙ sym (named_itself r s f);
    holds = λ r s e.
        let p : r ≡ s = named_itself r s e in
        let h = held_itself t r (e ∙ ap Some (sym p)) in
        (h.0, h.0, h.1, ap (heap_of (cell_value cells) no_changes) (sym p) ∙ h.1, h.2);
    all = λ r v e. (r, all_named r v e);
    only = λ s w e. (s, all_named s w e);
  }
