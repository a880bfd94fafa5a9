-- The laws of `atomic`.
use Rattle.std.proofs.Common.{◌≡◌, ◌≢◌, List, [], length, Some, refl, sym, subst}
use Rattle.stm_terms.specs.declared.kinds.Ty.{Ty}
use Rattle.stm_terms.specs.declared.values.Ref.{Ref}
use Rattle.stm_terms.specs.declared.values.Ref.TheVariants.{Old, New}
use Rattle.stm_terms.specs.declared.values.Value.{Value}
use Rattle.stm_terms.specs.declared.verdicts.Verdict.{Verdict}
use Rattle.stm_terms.specs.declared.verdicts.Verdict.TheVariants.{Commits}
use Rattle.stm_terms.specs.Ast.{Act, return, throw}
use Rattle.stm_terms.specs.Changes.{Variables, Changes, cell_value, no_changes}
use Rattle.stm_terms.specs.Semantics.{Outcome, Returned, Threw, Retried, Stuck}
use Rattle.stm_terms.specs.Typing.{ActionType, Gives, Any, type_of, WellTyped}
use Rattle.stm_terms.specs.Verdict.{verdict_from}
use Rattle.stm_store.specs.declared.cell.Cell.{Cell}
use Rattle.stm_store.specs.Cells.{plains, kinds_of, Fits, applied, IsApplied}
use Rattle.stm_store.proofs.Lookups.{is_applied}
use Rattle.stm_check.specs.Laws.{OfType}
use Rattle.stm_check.proofs.TypingLaws.{keeps_types}
use Rattle.stm_check.proofs.Weakening.{store_fine}
use Rattle.stm_paper_laws.specs.Transitions.{Heap, ◌⇒*◌, ◌⇝◌, ARET, ATHROW}
use Rattle.stm_paper_laws.specs.Laws.{heap_of, block_start, Ending, Returns, Throws as ThrowsFault, Retries, Ends, AreSameEnds, IsEndOf, IsTypedOn, block_run}
use Rattle.stm_paper_laws.proofs.Heaps.{made_types_of}
use Rattle.stm_paper_laws.specs.Atomic.{store_heap, IsAtomic, VerdictsAreAtomic, IsStepTo, AtomicIsRun}
use Rattle.stm_paper_laws.proofs.Names.{same_some}
use Rattle.stm_paper_laws.proofs.LeadToRun.{Leads, leads}
use Rattle.stm_paper_laws.proofs.StoreNames.{numbered_heap, numbered_types, by_store, begins, ends}
use Rattle.stm_paper_laws.proofs.PaperLaws.{reached_is_run}

pub some_type : (cells : List (Ty × Value)) (k : Changes) (r : ActionType) (v : Value) → OfType (kinds_of cells) k r v → (t : Ty) × (type_of (kinds_of cells) k v ≡ Some t)
some_type cells k (Gives t) v p = (t, p)
some_type cells k Any v p = absurd p

pub fits : (cells : List (Ty × Value)) (k : Changes) (r : ActionType) (v : Value) → OfType (kinds_of cells) k r v → WellTyped (kinds_of cells) (cell_value cells) k → Fits cells (Commits k.writes k.news v)
unfolding Fits
fits cells k r v p w = record { rising = w.rising; writes = w.writes; news = w.news; result = some_type cells k r v p }

pub start_heap : (store : List Cell) (s : Ref) → store_heap store s ≡ heap_of (cell_value (plains store)) no_changes s
start_heap store (Old i) = refl
start_heap store (New k) = refl

-- a step of `atomic` is an end of the block's transitions that isn't a retry
step_ends : {x y : Act × Heap} → x ⇝ y → (end : Ending) × Ends (x.0, x.1, []) end × (end ≢ Retries)
step_ends (ARET {Θ'} {Δ'} {N} {v} s p) = (Returns v Θ' Δ', (N, s, p), λ e. cc)
step_ends (ATHROW {Θ'} {Δ'} {N} {f} s r) = (ThrowsFault f, (N, Θ', Δ', s, r), λ e. cc)

retried : (under : Variables) (end : Ending) → AreSameEnds under Retries end → end ≡ Retries
retried under (Returns v Θ Δ) p = absurd p
retried under (ThrowsFault f) p = absurd p
retried under Retries p = refl

ended : (under : Variables) (end : Ending) → IsEndOf under Retried end → end ≡ Retries
ended under end p = retried under end (subst (λ z. AreSameEnds under z end) (same_some p.0 Retries (sym p.1)) p.2)

module _ (store : List Cell) (block : Act) (t : IsTypedOn (plains store) block) where
  leads_here : (o : Outcome) → block_run (plains store) block ≡ o → Leads (by_store store) (block, numbered_heap (cell_value (plains store)) (length store) no_changes, []) o
  leads_here o e =
      subst (Leads (by_store store) (block, numbered_heap (cell_value (plains store)) (length store) no_changes, [])) e
      (leads (by_store store) block [] [] no_changes t.typed.0 (store_fine (plains store) t.store) tt t.typed.1)

  atomic_of : (o : Outcome) (v : Verdict) → block_run (plains store) block ≡ o → verdict_from o ≡ Some v → IsAtomic block store v
  atomic_of (Returned x k) v e p =
      let types = keeps_types (kinds_of (plains store)) (cell_value (plains store)) block [] [] no_changes t.typed.0 x k (store_fine (plains store) t.store) tt t.typed.1 e in
      let is : IsApplied store (Commits k.writes k.news x) (applied store (Commits k.writes k.news x)) =
      is_applied store (Commits k.writes k.news x) (fits (plains store) k t.typed.0 x types.0 types.1) in
      let l = leads_here (Returned x k) e in
      let s : (block, store_heap store, []) ⇒* (return l.0, store_heap (applied store (Commits k.writes k.news x)), numbered_types (length store) (made_types_of k)) =
      subst (λ z. (block, z, []) ⇒* (return l.0, store_heap (applied store (Commits k.writes k.news x)), numbered_types (length store) (made_types_of k))) (begins store t.store)
      (subst (λ z. (block, numbered_heap (cell_value (plains store)) (length store) no_changes, []) ⇒* (return l.0, z, numbered_types (length store) (made_types_of k))) (ends store t.store k x is) l.1) in
      subst (IsAtomic block store) (same_some _ _ p) (ARET s l.2)
  atomic_of (Threw f) v e p =
      let l = leads_here (Threw f) e in
      let s : (block, store_heap store, []) ⇒* (throw l.0, l.1, l.2) = subst (λ z. (block, z, []) ⇒* (throw l.0, l.1, l.2)) (begins store t.store) l.3 in
      subst (IsAtomic block store) (same_some _ _ p) (l.0, l.4, ATHROW s l.4)
  atomic_of Retried v e p =
      subst (IsAtomic block store) (same_some _ _ p)
      (λ y s.
      let end = step_ends s in
      let there : Ends (block_start (plains store) block) end.0 = subst (λ z. Ends (block, z, []) end.0) (λ i r. start_heap store r i) end.1 in
      let is : IsEndOf (cell_value (plains store)) (block_run (plains store) block) end.0 = reached_is_run (plains store) block end.0 t there in
      end.2 (ended (cell_value (plains store)) end.0 (subst (λ o. IsEndOf (cell_value (plains store)) o end.0) e is)))
  atomic_of Stuck v e p = absurd (cc)

pub verdicts_are_atomic : VerdictsAreAtomic
verdicts_are_atomic store block v t e = atomic_of store block t (block_run (plains store) block) v refl e

step_to : (store : List Cell) {x y : Act × Heap} → x ⇝ y → store_heap store ≡ x.1 → (end : Ending) × Ends (x.0, x.1, []) end × IsStepTo store end y
step_to store (ARET {Θ'} {Δ'} {N} {v} s p) h = (Returns v Θ' Δ', (N, s, p), refl)
step_to store (ATHROW {Θ'} {Δ'} {N} {f} s r) h = (ThrowsFault f, (N, Θ', Δ', s, r), (N, r, λ i. (throw N, sym h i)))

pub atomic_is_run : AtomicIsRun
atomic_is_run store block y t s =
    let end = step_to store s refl in
    let there : Ends (block_start (plains store) block) end.0 = subst (λ z. Ends (block, z, []) end.0) (λ i r. start_heap store r i) end.1 in
    (end.0, reached_is_run (plains store) block end.0 t there, end.2)
