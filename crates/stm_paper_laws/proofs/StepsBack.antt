-- A step of `atomic` in a heap that is a store's but for names does what the block's verdict on the store says.
use Rattle.std.proofs.Common.{◌≡◌, ℕ, ◌<◌, ◌-◌, true, false, List, [], length, Option, Some, None, refl, ap, sym, ◌∙◌, subst}
use Rattle.std.specs.Prelude.{option_map, slice_get, nat_lt, if◌then◌else◌}
use Rattle.std.proofs.lemmas.Bool.{ltb-false}
use Rattle.stm_terms.specs.declared.kinds.Ty.{Ty}
use Rattle.stm_terms.specs.declared.values.Ref.{Ref}
use Rattle.stm_terms.specs.declared.values.Ref.TheVariants.{Old, New}
use Rattle.stm_terms.specs.declared.values.Value.{Value}
use Rattle.stm_terms.specs.declared.values.Fault.{Fault}
use Rattle.stm_terms.specs.declared.verdicts.Verdict.{Verdict}
use Rattle.stm_terms.specs.declared.verdicts.Verdict.TheVariants.{Commits, Throws}
use Rattle.stm_terms.specs.Ast.{Act}
use Rattle.stm_terms.specs.Changes.{Variables, Changes, no_changes, find, first_of, cell_value, view_at}
use Rattle.stm_terms.specs.Semantics.{Returned, Threw, on_answer, run}
use Rattle.stm_terms.specs.Typing.{TypeEnv, var_ty, kind_of, type_of, WellTyped}
use Rattle.stm_terms.specs.Verdict.{verdict_from}
use Rattle.stm_store.specs.declared.cell.Cell.{Cell}
use Rattle.stm_store.specs.Cells.{plains, kinds_of, renumbered_ref, renumbered, Fits, applied, IsApplied}
use Rattle.stm_store.proofs.Lookups.{is_applied}
use Rattle.stm_check.proofs.ActionsSound.{mapped}
use Rattle.stm_check.proofs.TypingLaws.{keeps_types}
use Rattle.stm_check.proofs.Weakening.{store_fine}
use Rattle.stm_events.specs.SlowDesk.{is_blocks}
use Rattle.stm_paper_laws.specs.Transitions.{Heap, Allocations, ◌⇝◌, ARET, ATHROW}
use Rattle.stm_paper_laws.specs.Laws.{heap_of, Naming, IsSame, same_int, same_truth, same_unit, same_var, AreSameHeaps, IsTypedOn, block_run, NamesGrow}
use Rattle.stm_paper_laws.specs.Atomic.{store_heap}
use Rattle.stm_paper_laws.specs.AtomicRuns.{IsResultOf}
use Rattle.stm_paper_laws.proofs.Names.{IsRenamed, same_some, nothing, tests_agree}
use Rattle.stm_paper_laws.proofs.LikeRuns.{Like, value_back}
use Rattle.stm_paper_laws.proofs.NamedTransitions.{return_back, throw_back, threw, steps_go}
use Rattle.stm_paper_laws.proofs.StoreNames.{there_again, ref_at, InRange, old_at, new_at, numbered_heap, kind_below, ends}
use Rattle.stm_paper_laws.proofs.AtomicLaws.{some_type, fits, start_heap}

-- ---- numbers of the store, and references of a view
back_ref : (n j : ℕ) → renumbered_ref n (ref_at n j) ≡ Old j
back_ref n j =
    elim (nat_lt j n) as (λ b. nat_lt j n ≡ b → renumbered_ref n (if b then Old j else New (j - n)) ≡ Old j) [
      | true ↦ λ e. refl
      | false ↦ λ e. ap Old (there_again n j (ltb-false j n e))
    ] refl

-- the names of the next store: those of the view
abbrev pub moved_names : ℕ → Naming → Naming
moved_names n g (Old j) = g (ref_at n j)
moved_names n g (New k) = None

moved_at : (n : ℕ) (g : Naming) (r : Ref) → InRange n r → moved_names n g (renumbered_ref n r) ≡ g r
moved_at n g (Old i) p = ap g (old_at n i p)
moved_at n g (New k) p = ap g (new_at n k)

module _ (store : List Cell) (k : Changes) (w : WellTyped (kinds_of (plains store)) (cell_value (plains store)) k) where
  abbrev kinds : TypeEnv
  kinds = kinds_of (plains store)

  abbrev under : Variables
  under = cell_value (plains store)

  -- what the view has is typed
  old_typed : (i : ℕ) (v : Value) (o : Option Value) → find i k.writes ≡ o → first_of o (under i) ≡ Some v → (u : Ty) × (kinds i ≡ Some u) × (type_of kinds k v ≡ Some u)
  old_typed i v (Some x) e p = let t = w.writes i x e in (t.0, t.1, ap (type_of kinds k) (same_some v x (sym p)) ∙ t.2)
  old_typed i v None e p =
      let m = mapped (λ c. c.1) (slice_get (plains store) i) v p in
      let kind : kinds i ≡ Some m.0.0 = ap (λ o. option_map (λ c. c.0) o) m.1 in
      let s = w.store i m.0.0 kind in
      (m.0.0, kind, ap (type_of kinds k) (same_some v s.0 (sym p ∙ s.1)) ∙ s.2)

  view_typed : (r : Ref) (v : Value) → view_at under k r ≡ Some v → (u : Ty) × (kind_of kinds k r ≡ Some u) × (type_of kinds k v ≡ Some u)
  view_typed (Old i) v e = old_typed i v (find i k.writes) refl e
  view_typed (New j) v e =
      let m = mapped (λ c. c.1) (slice_get k.news j) v e in
      (m.0.0, ap (λ o. option_map (λ c. c.0) o) m.1, ap (type_of kinds k) (sym m.2) ∙ (w.news j m.0 m.1).0)

  in_store : (r : Ref) (u : Ty) → kind_of kinds k r ≡ Some u → InRange (length store) r
  in_store (Old i) u e = kind_below store i u e
  in_store (New j) u e = tt

  module _ {g : Naming} {types : List Ty} {Θ : Heap} {Δ : Allocations} (n : IsRenamed g (heap_of under k) types Θ Δ) where
    pub same_moved : {v x : Value} (u : Ty) → type_of kinds k v ≡ Some u → IsSame g v x → IsSame (moved_names (length store) g) (renumbered (length store) v) x
    same_moved u e same_int = same_int
    same_moved u e same_truth = same_truth
    same_moved u e same_unit = same_unit
    same_moved u e (same_var {r} p) =
        let m = mapped var_ty (kind_of kinds k r) u e in
        same_var (moved_at (length store) g r (in_store r m.0 m.1) ∙ p)

    moved_apart : (q r s : Ref) → moved_names (length store) g q ≡ Some s → moved_names (length store) g r ≡ Some s → q ≡ r
    moved_apart (Old i) (Old j) s e f =
        sym (back_ref (length store) i) ∙ ap (renumbered_ref (length store)) (n.apart (ref_at (length store) i) (ref_at (length store) j) s e f) ∙ back_ref (length store) j
    moved_apart (Old i) (New j) s e f = nothing None s refl f
    moved_apart (New i) r s e f = nothing None s refl e

    moved_holds : (r s : Ref) → moved_names (length store) g r ≡ Some s
        → (v : Value) × (x : Value) × (numbered_heap under (length store) k r ≡ Some v) × (Θ s ≡ Some x) × IsSame (moved_names (length store) g) v x
    moved_holds (Old j) s e =
        let h = n.holds (ref_at (length store) j) s e in
        let t = view_typed (ref_at (length store) j) h.0 h.2 in
        (renumbered (length store) h.0, h.1, ap (option_map (renumbered (length store))) h.2, h.3, same_moved t.0 t.2 h.4)
    moved_holds (New j) s e = nothing None s refl e

    moved_all : (r : Ref) (v : Value) → numbered_heap under (length store) k r ≡ Some v → (s : Ref) × (moved_names (length store) g r ≡ Some s)
    moved_all (Old j) v e = let m = mapped (renumbered (length store)) (view_at under k (ref_at (length store) j)) v e in n.all (ref_at (length store) j) m.0 m.1
    moved_all (New j) v e = nothing None v refl e

    moved_only : (s : Ref) (x : Value) → Θ s ≡ Some x → (r : Ref) × (moved_names (length store) g r ≡ Some s)
    moved_only s x e =
        let o = n.only s x e in
        let h = n.holds o.0 s o.1 in
        let t = view_typed o.0 h.0 h.2 in
        (renumbered_ref (length store) o.0, moved_at (length store) g o.0 (in_store o.0 t.0 t.1) ∙ o.1)

    pub moved_heaps : AreSameHeaps (moved_names (length store) g) (numbered_heap under (length store) k) Θ
    moved_heaps = record { apart = moved_apart; holds = moved_holds; all = moved_all; only = moved_only }

throw_fits : (cells : List (Ty × Value)) (f : Fault) → Fits cells (Throws f)
unfolding Fits
throw_fits cells f = tt

-- ---- a step
-- what the desk does in place of a step of `atomic`
pub record Stepped (called : Naming) (store : List Cell) (tree : Act) (y : Act × Heap) : Type 0 where
  pub verdict : Verdict
  pub gives : verdict_from (block_run (plains store) tree) ≡ Some verdict
  pub ends : is_blocks verdict ≡ false
  pub fitting : Fits (plains store) verdict
  pub more : Naming
  pub grows : NamesGrow called more
  pub heaps : AreSameHeaps more (store_heap (applied store verdict)) y.1
  pub result : IsResultOf more (length store) verdict y.0

value_below : (store : List Cell) (j : ℕ) (v : Value) → cell_value (plains store) j ≡ Some v → j < length store
value_below store j v e = let m = mapped (λ c. c.1) (slice_get (plains store) j) v e in kind_below store j m.0.0 (ap (λ o. option_map (λ c. c.0) o) m.1)

module _ (store : List Cell) (tree : Act) (t : IsTypedOn (plains store) tree) (called : Naming) {Θ : Heap} (like : Like called tree tree) (same : AreSameHeaps called (store_heap store) Θ) where
  abbrev here : Variables
  here = cell_value (plains store)

  no_new_at : (k : ℕ) (o : Option Ref) → called (New k) ≡ o → called (New k) ≡ None
  no_new_at k None e = e
  no_new_at k (Some s) e = let h = same.holds (New k) s e in nothing None h.0 refl h.2

  no_new : (k : ℕ) → called (New k) ≡ None
  no_new k = no_new_at k (called (New k)) refl

  as_store : IsRenamed called (store_heap store) [] Θ []
  as_store = record { news = no_new; types_are = refl; apart = same.apart; holds = same.holds; all = same.all; only = same.only }

  at_first : IsRenamed called (heap_of here no_changes) [] Θ []
  at_first = subst (λ z. IsRenamed called z [] Θ []) (λ i r. start_heap store r i) as_store

  grown : (g : Naming) → NamesGrow called g → NamesGrow called (moved_names (length store) g)
  grown g m (Old j) s e = let h = same.holds (Old j) s e in ap g (old_at (length store) j (value_below store j h.0 h.2)) ∙ m (Old j) s e
  grown g m (New k) s e = nothing (called (New k)) s (no_new k) e

  pub step_back : {y : Act × Heap} → (tree, Θ) ⇝ y → Stepped called store tree y
  step_back (ARET {Θ'} {N} {v} s p) =
      let g = steps_go here s [] called no_changes tree like at_first in
      let r = return_back g.4 in
      let x = value_back (tests_agree g.5) r.2 p in
      let returned : block_run (plains store) tree ≡ Returned x.0 g.1 =
      g.6 ∙ ap (λ z. run here z [] g.1) r.1 ∙ ap (λ z. on_answer z (λ y. Returned y g.1)) x.1.value_is in
      let types = keeps_types (kinds_of (plains store)) here tree [] [] no_changes t.typed.0 x.0 g.1 (store_fine (plains store) t.store) tt t.typed.1 returned in
      let fit = fits (plains store) g.1 t.typed.0 x.0 types.0 types.1 in
      let of_type = some_type (plains store) g.1 t.typed.0 x.0 types.0 in
      let is : IsApplied store (Commits g.1.writes g.1.news x.0) (applied store (Commits g.1.writes g.1.news x.0)) =
      is_applied store (Commits g.1.writes g.1.news x.0) fit in
      record {
        verdict = Commits g.1.writes g.1.news x.0;
        gives = ap verdict_from returned;
        ends = refl;
        fitting = fit;
        more = moved_names (length store) g.0;
        grows = grown g.0 g.3;
        heaps = subst (λ z. AreSameHeaps (moved_names (length store) g.0) z Θ') (ends store t.store g.1 x.0 is) (moved_heaps store g.1 types.1 g.5);
        result = (v, same_moved store g.1 types.1 g.5 of_type.0 of_type.1 x.2, refl);
      }
  step_back (ATHROW {N} {f} s e) =
      let g = steps_go here s [] called no_changes tree like at_first in
      let d = throw_back g.4 in
      let threw_is : block_run (plains store) tree ≡ Threw f = g.6 ∙ threw here g.0 g.1 g.5 d.0 d.1 d.2 e in
      record {
        verdict = Throws f;
        gives = ap verdict_from threw_is;
        ends = refl;
        fitting = throw_fits (plains store) f;
        more = called;
        grows = λ r s e. e;
        heaps = same;
        result = (N, e, refl);
      }
