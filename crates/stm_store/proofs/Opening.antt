-- The cells of a table, one by one.
use Rattle.std.proofs.Common.{◌≡◌, ℕ, zero, suc, ◌+◌, ◌≤◌, List, [], ◌∷◌, ◌++◌, Some, drop, length, refl, sym, ap, ◌∙◌, add-one, append_assoc, append-nil}
use Rattle.std.proofs.lemmas.List.{length-map, drop_all}
use Rattle.std.specs.Prelude.{slice_get, option_map}
use Rattle.stm_terms.specs.declared.kinds.Ty.{Ty}
use Rattle.stm_terms.specs.declared.values.Value.{Value}
use Rattle.stm_store.specs.declared.cell.Cell.{Cell}
use Rattle.stm_store.specs.Cells.{plains, StoreIsTyped, StoreHasAtMost8Refs, IsStore}
use Rattle.stm_store.specs.Tables.{Declared, declared_cell, declared_cells, opened}
use Rattle.stm_store.specs.Laws.{OpenedAreDeclared}

abbrev cell_of : Ty → Value → Cell
cell_of k v = record { kind = k; value = v; count = 0 }

opened-drop : (t : List Declared) (i : ℕ) (k : Ty) (v : Value) → option_map (λ d. d.kind) (slice_get t i) ≡ Some k → option_map (λ d. d.value) (slice_get t i) ≡ Some v → drop i (opened t) ≡ cell_of k v ∷ drop (suc i) (opened t)
opened-drop [] i k v p q = absurd (cc)
opened-drop (d ∷ t) zero k v p q =
    let a : d.kind ≡ k = cc in
    let b : d.value ≡ v = cc in
    λ i. record { kind = a i; value = b i; count = 0 } ∷ opened t
opened-drop (d ∷ t) (suc i) k v p q = opened-drop t i k v p q

-- the next cell of the table, after those that are there
pub opened-next : (cells : List Cell) (t : List Declared) (i : ℕ) (k : Ty) (v : Value) → cells ++ drop i (opened t) ≡ opened t → option_map (λ d. d.kind) (slice_get t i) ≡ Some k → option_map (λ d. d.value) (slice_get t i) ≡ Some v → (cells ++ cell_of k v ∷ []) ++ drop (i + 1) (opened t) ≡ opened t
opened-next cells t i k v e p q =
    rw add-one (append_assoc cells (cell_of k v ∷ []) (drop (suc i) (opened t)) ∙ ap (λ (cs : List Cell). cells ++ cs) (sym (opened-drop t i k v p q)) ∙ e)

-- all cells of the table are there
pub opened-whole : (cells : List Cell) (t : List Declared) (i : ℕ) → cells ++ drop i (opened t) ≡ opened t → length t ≤ i → cells ≡ opened t
opened-whole cells t i e h =
    let past : length (opened t) ≤ i = simp length-map h in
    sym (append-nil cells) ∙ ap (λ (cs : List Cell). cells ++ cs) (sym (drop_all i (opened t) past)) ∙ e

pub plains-opened : OpenedAreDeclared
plains-opened [] = refl
plains-opened (d ∷ t) = ap (λ (cs : List (Ty × Value)). declared_cell d ∷ cs) (plains-opened t)

-- a store opens on any table
pub opened_store : (t : List Declared) → length t ≤ 1000000 → StoreIsTyped (declared_cells t) → StoreHasAtMost8Refs (declared_cells t) → IsStore (plains (opened t))
opened_store t small typed low = rw (plains-opened t) (record { small = simp length-map small; typed = typed; low = low })
