-- What is in range of the first of a list, and of one more.
use Rattle.std.proofs.Common.{◌≡◌, ℕ, zero, suc, ◌+◌, ◌<◌, length, take, get_or, List, [], ◌∷◌, ◌++◌, IfSome, arith, sym, subst}
use Rattle.std.specs.Prelude.{slice_get}
use Rattle.std.proofs.lemmas.List.{take_more}
use Rattle.stm_store.specs.declared.cell.Cell.{Cell}
use Rattle.stm_events.specs.declared.event.Event.{Event}
use Rattle.stm_machine.specs.declared.checkpoint.CheckpointBlock.{CheckpointBlock}
use Rattle.stm_journaled_run.specs.Ranges.{IsEventInRange, AreEventsInRange, IsCellInRange, AreCellsInRange, IsBlockInRange, AreBlocksInRange}

-- ---- events
events_push : (xs : List Event) (e : Event) → AreEventsInRange xs → IsEventInRange e.what → AreEventsInRange (xs ++ e ∷ [])
events_push [] e h k = (k, tt)
events_push (x ∷ xs) e h k = (h.0, events_push xs e h.1 k)

pub range_more : (es : List Event) (i : ℕ) (e : Event) → i < length es → e ≡ get_or es i e → AreEventsInRange (take i es) → IsEventInRange e.what → AreEventsInRange (take (i + 1) es)
range_more es i e lt is h k =
    subst AreEventsInRange (sym (take_more es i e lt)) (events_push (take i es) (get_or es i e) h (subst (λ (x : Event). IsEventInRange x.what) is k))

-- ---- waiting blocks
blocks_push : (xs : List CheckpointBlock) (b : CheckpointBlock) → AreBlocksInRange xs → IsBlockInRange b → AreBlocksInRange (xs ++ b ∷ [])
blocks_push [] b h k = (k, tt)
blocks_push (x ∷ xs) b h k = (h.0, blocks_push xs b h.1 k)

pub block_more : (bs : List CheckpointBlock) (i : ℕ) (b : CheckpointBlock) → i < length bs → b ≡ get_or bs i b → AreBlocksInRange (take i bs) → IsBlockInRange b → AreBlocksInRange (take (i + 1) bs)
block_more bs i b lt is h k = subst AreBlocksInRange (sym (take_more bs i b lt)) (blocks_push (take i bs) (get_or bs i b) h (subst IsBlockInRange is k))

-- ---- variables
cell_more : (cs : List Cell) (i : ℕ) → i < length cs → AreCellsInRange (take i cs) → IfSome (slice_get cs i) IsCellInRange → AreCellsInRange (take (suc i) cs)
cell_more [] i lt h k = tt
cell_more (c ∷ cs) zero lt h k = (k, tt)
cell_more (c ∷ cs) (suc i) lt h k = (h.0, cell_more cs i (omega arith) h.1 k)

pub cell_next : (cs : List Cell) (i : ℕ) → i < length cs → AreCellsInRange (take i cs) → IfSome (slice_get cs i) IsCellInRange → AreCellsInRange (take (i + 1) cs)
cell_next cs i lt h k = let next : suc i ≡ i + 1 = omega arith in subst (λ (n : ℕ). AreCellsInRange (take n cs)) next (cell_more cs i lt h k)
