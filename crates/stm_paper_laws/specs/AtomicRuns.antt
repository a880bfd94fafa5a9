-- Blocks that run one after another by `atomic`, in any order, and a legal history that does the same.
use Rattle.std.specs.Prelude.{◌≡◌, ℕ, ◌*◌, ◌≤◌, List, [], ◌∷◌, ◌++◌, map, length, Option, Some, None}
use Rattle.stm_terms.specs.declared.kinds.Ty.{Ty}
use Rattle.stm_terms.specs.declared.values.Value.{Value}
use Rattle.stm_terms.specs.declared.verdicts.Verdict.{Verdict}
use Rattle.stm_terms.specs.declared.verdicts.Verdict.TheVariants.{Commits, Throws, Blocks}
use Rattle.stm_terms.specs.Ast.{Term, lit, Act, return, throw}
use Rattle.stm_terms.specs.Changes.{cell_value}
use Rattle.stm_terms.specs.Limits.{max_events}
use Rattle.stm_store.specs.declared.cell.Cell.{Cell}
use Rattle.stm_store.specs.Cells.{Covers, StoreIsTyped, renumbered}
use Rattle.stm_store.specs.Tables.{Declared, declared_cells, opened}
use Rattle.stm_check.specs.TypedBlock.{Block}
use Rattle.stm_events.specs.declared.event.Event.{Event}
use Rattle.stm_events.specs.declared.event.What.{What}
use Rattle.stm_events.specs.declared.event.What.TheVariants.{Submitted, Installed, Finished, Cancelled, Declared as DeclaredLate, Labelled}
use Rattle.stm_events.specs.declared.staleness.StalenessRule.{StalenessRule}
use Rattle.stm_events.specs.SlowDesk.{Slow, Waiter, Runs, max_cells, find_waiter, after, initial_state, serial, IsLegalBy}
use Rattle.stm_events.specs.Laws.{IsWellTyped}
use Rattle.stm_paper_laws.specs.Evaluation.{Raises}
use Rattle.stm_paper_laws.specs.Transitions.{Heap, ◌⇝◌}
use Rattle.stm_paper_laws.specs.Laws.{Naming, IsSame, AreSameHeaps, NamesGrow, KeepsNames}
use Rattle.stm_paper_laws.specs.Atomic.{store_heap}

-- ---- runs of the paper
-- each block makes a step of `atomic` in the heap that the one before it left: what it becomes, and the heap after it
pub data AtomicRun : List Block → Heap → List (Act × Heap) → Type 0 where
  no_steps : {Θ : Heap} → AtomicRun [] Θ []
  one_step : {b : Block} {bs : List Block} {Θ : Heap} {y : Act × Heap} {ys : List (Act × Heap)}
      → (b.tree, Θ) ⇝ y → AtomicRun bs y.1 ys → AtomicRun (b ∷ bs) Θ (y ∷ ys)

-- the blocks are well typed, and name declared variables alone
abbrev pub AreTypedOver : List (Ty × Value) → List Block → Type 0
AreTypedOver cells [] = Unit {0}
AreTypedOver cells (b ∷ bs) = Covers cells b.uses × IsWellTyped b × AreTypedOver cells bs

-- they can be a desk's: they are typed, and there is room for three events for each of them, and for the store that they lead to
pub record MayAllFinish (table : List Declared) (blocks : List Block) : Type 0 where
  pub typed : AreTypedOver (declared_cells table) blocks
  pub few_events : 3 * length blocks ≤ max_events
  pub few_cells : length (serial (opened table) (map Runs blocks)) ≤ max_cells

-- ---- what a history says
-- the block that an event submits, if it does
abbrev pub submission_in : What → List Block
submission_in (Submitted t block) = block ∷ []
submission_in (Installed t v) = []
submission_in (Finished t v n stale) = []
submission_in (Cancelled t) = []
submission_in (DeclaredLate name kind value) = []
submission_in (Labelled t label) = []

abbrev pub submissions_in : List Event → List Block
submissions_in [] = []
submissions_in (e ∷ es) = submission_in e.what ++ submissions_in es

-- a block that finishes: its verdict, the number of its first new variable, and the store after it
pub record BlockFinish : Type 0 where
  pub block : Block
  pub verdict : Verdict
  pub first_new : ℕ
  pub store : List Cell

abbrev pub finish_of_waiter : Option Waiter → Verdict → ℕ → List Cell → List BlockFinish
finish_of_waiter (Some w) v n store = record { block = w.block; verdict = v; first_new = n; store = store } ∷ []
finish_of_waiter None v n store = []

abbrev pub finish_in : Slow → What → List BlockFinish
finish_in s (Submitted t block) = []
finish_in s (Installed t v) = []
finish_in s (Finished t v n stale) = finish_of_waiter (find_waiter t s.waiters) v n (after s (Finished t v n stale)).store
finish_in s (Cancelled t) = []
finish_in s (DeclaredLate name kind value) = []
finish_in s (Labelled t label) = []

-- the blocks that finish by these events, which begin on a state
abbrev pub finishes_in : Slow → List Event → List BlockFinish
finishes_in s [] = []
finishes_in s (e ∷ es) = finish_in s e.what ++ finishes_in (after s e.what) es

-- ---- both are the same
-- a block became what its verdict says, by these names
abbrev pub IsResultOf : Naming → ℕ → Verdict → Act → Type 0
IsResultOf called n (Commits writes news result) M = (w : Value) × IsSame called (renumbered n result) w × (M ≡ return (lit w))
IsResultOf called n (Throws f) M = (N : Term) × Raises N f × (M ≡ throw N)
IsResultOf called n Blocks M = ⊥

-- Finishes, and as many steps of `atomic` that come to the same, in order: the heap is that of the store, and the block becomes what its
-- verdict says, by names of which none ever changes
abbrev pub AreSameSteps : Naming → List BlockFinish → List (Act × Heap) → Type 0
AreSameSteps called [] [] = Unit {0}
AreSameSteps called (f ∷ fs) (y ∷ ys) =
    (more : Naming) × NamesGrow called more × AreSameHeaps more (store_heap f.store) y.1 × IsResultOf more f.first_new f.verdict y.0 × AreSameSteps more fs ys
AreSameSteps called fs ys = ⊥

-- a legal history that does what a run of these blocks does
pub record HistoryOfRun (rule : StalenessRule) (table : List Declared) (blocks : List Block) (steps : List (Act × Heap)) : Type 0 where
  pub history : List Event
  pub legal : IsLegalBy rule table history
  -- it submits these blocks, in this order
  pub submits : submissions_in history ≡ blocks
  -- and they finish in this order
  pub finishes : map (λ f. f.block) (finishes_in (initial_state rule table) history) ≡ blocks
  -- by names that are those of the declared variables at first, each finish comes to what the step comes to
  pub called : Naming
  pub keeps : KeepsNames (cell_value (declared_cells table)) called
  pub same : AreSameSteps called (finishes_in (initial_state rule table) history) steps

-- So each run of the paper, whatever names it gives to new cells, is what a legal history does: the desk loses none.
abbrev pub RunsAreHistories : Type 0
RunsAreHistories =
    (rule : StalenessRule) (table : List Declared) (blocks : List Block) (steps : List (Act × Heap))
    → StoreIsTyped (declared_cells table) → MayAllFinish table blocks
    → AtomicRun blocks (store_heap (opened table)) steps → HistoryOfRun rule table blocks steps
