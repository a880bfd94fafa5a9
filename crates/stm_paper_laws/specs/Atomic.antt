-- What `atomic` does with a block on a store, and what that has to do with verdicts.
use Rattle.std.specs.Prelude.{◌≡◌, List, length, Some, None}
use Rattle.stm_terms.specs.declared.values.Ref.TheVariants.{Old, New}
use Rattle.stm_terms.specs.declared.verdicts.Verdict.{Verdict}
use Rattle.stm_terms.specs.declared.verdicts.Verdict.TheVariants.{Commits, Throws as ThrowsFault, Blocks}
use Rattle.stm_terms.specs.Ast.{Term, lit, Act, return, throw}
use Rattle.stm_terms.specs.Changes.{cell_value}
use Rattle.stm_terms.specs.Verdict.{verdict}
use Rattle.stm_store.specs.declared.cell.Cell.{Cell}
use Rattle.stm_store.specs.Cells.{plains, renumbered, applied}
use Rattle.stm_paper_laws.specs.Evaluation.{Raises}
use Rattle.stm_paper_laws.specs.Transitions.{Heap, ◌⇝◌}
use Rattle.stm_paper_laws.specs.Laws.{Ending, Returns, Throws, Retries, IsEndOf, IsTypedOn, block_run}

-- the heap of a store
abbrev pub store_heap : List Cell → Heap
store_heap store (Old i) = cell_value (plains store) i
store_heap store (New k) = None

-- by `atomic` a block makes a store the next one, as the verdict says
abbrev pub Makes : Act → List Cell → Verdict → List Cell → Type 0
Makes block store (Commits writes news result) next =
    (block, store_heap store) ⇝ (return (lit (renumbered (length store) result)), store_heap next)
Makes block store (ThrowsFault f) next = (N : Term) × Raises N f × ((block, store_heap store) ⇝ (throw N, store_heap next))
Makes block store Blocks next = ⊥

-- to apply a verdict is what `atomic` does with the block; one that blocks has no step
abbrev pub IsAtomic : Act → List Cell → Verdict → Type 0
IsAtomic block store Blocks = (y : Act × Heap) → (block, store_heap store) ⇝ y → ⊥
IsAtomic block store v = Makes block store v (applied store v)

-- each verdict of a well typed block on a well typed store is so
abbrev pub VerdictsAreAtomic : Type 0
VerdictsAreAtomic =
    (store : List Cell) (block : Act) (v : Verdict)
    → IsTypedOn (plains store) block → verdict (cell_value (plains store)) block ≡ Some v → IsAtomic block store v

-- what `atomic` did, if the block's transitions came to this end
abbrev pub IsStepTo : List Cell → Ending → Act × Heap → Type 0
IsStepTo store (Returns v Θ Δ) y = y ≡ (return (lit v), Θ)
IsStepTo store (Throws f) y = (N : Term) × Raises N f × (y ≡ (throw N, store_heap store))
IsStepTo store Retries y = ⊥

-- and `atomic` does nothing else: each of its steps is to the end that `run` says, but for the names of new cells
abbrev pub AtomicIsRun : Type 0
AtomicIsRun =
    (store : List Cell) (block : Act) (y : Act × Heap)
    → IsTypedOn (plains store) block → (block, store_heap store) ⇝ y
    → (end : Ending) × IsEndOf (cell_value (plains store)) (block_run (plains store) block) end × IsStepTo store end y
