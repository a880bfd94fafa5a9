-- What the transitions of a block have to do with `run`. The transitions give new cells any names that aren't in use, and `run`
-- numbers them; so what they end with is the same but for these names.
use Rattle.std.specs.Prelude.{◌≡◌, ℕ, ℤ, suc, Bool, List, [], ◌∷◌, Option, Some, None}
use Rattle.stm_terms.specs.declared.kinds.Ty.{Ty}
use Rattle.stm_terms.specs.declared.values.Ref.{Ref}
use Rattle.stm_terms.specs.declared.values.Ref.TheVariants.{Old, New}
use Rattle.stm_terms.specs.declared.values.Value.{Value}
use Rattle.stm_terms.specs.declared.values.Value.TheVariants.{Int, Bool as Truth, Unit as Nil, Var}
use Rattle.stm_terms.specs.declared.values.Fault.{Fault}
use Rattle.stm_terms.specs.Ast.{Term, Act, return, throw, retry}
use Rattle.stm_terms.specs.Changes.{Variables, Changes, cell_value, no_changes, view_at}
use Rattle.stm_terms.specs.Semantics.{Outcome, Returned, Threw, Retried, Stuck, run}
use Rattle.stm_terms.specs.Typing.{ActionType, action_type}
use Rattle.stm_store.specs.Cells.{kinds_of, StoreIsTyped}
use Rattle.stm_paper_laws.specs.Evaluation.{◌⇓◌, Raises}
use Rattle.stm_paper_laws.specs.Transitions.{Heap, Allocations, Configuration, ◌⇒*◌}

-- ---- ends
-- the heap of a view
abbrev pub heap_of : Variables → Changes → Heap
heap_of under h = view_at under h

-- the cells that were made in a view, numbered in order
abbrev pub numbered_cells : ℕ → List (Ty × Value) → Allocations
numbered_cells n [] = []
numbered_cells n (c ∷ cs) = (New n, c.0) ∷ numbered_cells (suc n) cs

abbrev pub cells_of : Changes → Allocations
cells_of h = numbered_cells 0 h.news

-- a block that begins on a store, a list of cells with their types
abbrev pub block_start : List (Ty × Value) → Act → Configuration
block_start cells block = (block, heap_of (cell_value cells) no_changes, [])

-- how the transitions of a block end; only a return keeps a heap
pub data Ending : Type 0 where
  Returns : Value → Heap → Allocations → Ending
  Throws : Fault → Ending
  Retries : Ending

-- the transitions lead to this end
abbrev pub Ends : Configuration → Ending → Type 0
Ends x (Returns v Θ Δ) = (e : Term) × (x ⇒* (return e, Θ, Δ)) × (e ⇓ v)
Ends x (Throws f) = (e : Term) × (Θ : Heap) × (Δ : Allocations) × (x ⇒* (throw e, Θ, Δ)) × Raises e f
Ends x Retries = (Θ : Heap) × (Δ : Allocations) × (x ⇒* (retry, Θ, Δ))

-- the end that `run` says, none where it is stuck
abbrev pub ending_of : Variables → Outcome → Option Ending
ending_of under (Returned v h) = Some (Returns v (heap_of under h) (cells_of h))
ending_of under (Threw f) = Some (Throws f)
ending_of under Retried = Some Retries
ending_of under Stuck = None

-- ---- names
-- what the cells of one heap are called in another one
abbrev pub Naming : Type 0
Naming = Ref → Option Ref

-- a value, and the same one where cells are called so
pub data IsSame (called : Naming) : Value → Value → Type 0 where
  same_int : {n : ℤ} → IsSame called (Int n) (Int n)
  same_truth : {b : Bool} → IsSame called (Truth b) (Truth b)
  same_unit : IsSame called Nil Nil
  same_var : {r s : Ref} → called r ≡ Some s → IsSame called (Var r) (Var s)

-- both hold the same value
abbrev pub HoldSame : Naming → Option Value → Option Value → Type 0
HoldSame called o p = (v : Value) × (w : Value) × (o ≡ Some v) × (p ≡ Some w) × IsSame called v w

-- a heap, and the same one but for names
pub record AreSameHeaps (called : Naming) (Θ Θ' : Heap) : Type 0 where
  -- no two cells have one name
  pub apart : (q r s : Ref) → called q ≡ Some s → called r ≡ Some s → q ≡ r
  -- a cell and what it is called hold the same value
  pub holds : (r s : Ref) → called r ≡ Some s → HoldSame called (Θ r) (Θ' s)
  -- each cell is called something
  pub all : (r : Ref) (v : Value) → Θ r ≡ Some v → (s : Ref) × (called r ≡ Some s)
  -- and nothing else is there
  pub only : (s : Ref) (w : Value) → Θ' s ≡ Some w → (r : Ref) × (called r ≡ Some s)

-- allocations, and the same ones, in order, but for names
abbrev pub AreSameCells : Naming → Allocations → Allocations → Type 0
AreSameCells called [] [] = Unit {0}
AreSameCells called (c ∷ cs) (d ∷ ds) = (called c.0 ≡ Some d.0) × (c.1 ≡ d.1) × AreSameCells called cs ds
AreSameCells called Δ Δ' = ⊥

-- all names stay, and there may be more
abbrev pub NamesGrow : Naming → Naming → Type 0
NamesGrow called more = (r s : Ref) → called r ≡ Some s → more r ≡ Some s

-- the variables of the store keep their names
abbrev pub KeepsNames : Variables → Naming → Type 0
KeepsNames under called = (i : ℕ) (v : Value) → under i ≡ Some v → called (Old i) ≡ Some (Old i)

-- two ends are the same but for the names of new cells
abbrev pub AreSameEnds : Variables → Ending → Ending → Type 0
AreSameEnds under (Returns v Θ Δ) (Returns w Θ' Δ') =
    (called : Naming) × KeepsNames under called × IsSame called v w × AreSameHeaps called Θ Θ' × AreSameCells called Δ Δ'
AreSameEnds under (Throws f) (Throws g) = f ≡ g
AreSameEnds under Retries Retries = Unit {0}
AreSameEnds under end other = ⊥

-- the end is the one that `run` says, but for the names of new cells
abbrev pub IsEndOf : Variables → Outcome → Ending → Type 0
IsEndOf under o end = (said : Ending) × (ending_of under o ≡ Some said) × AreSameEnds under said end

-- ---- the laws
-- the cells hold values of their types, and the block has a type if they are known
pub record IsTypedOn (cells : List (Ty × Value)) (block : Act) : Type 0 where
  pub store : StoreIsTyped cells
  pub typed : (r : ActionType) × (action_type (kinds_of cells) [] block ≡ Some r)

-- what `run` says of a block on a store
abbrev pub block_run : List (Ty × Value) → Act → Outcome
block_run cells block = run (cell_value cells) block [] no_changes

-- the transitions lead to what `run` says
abbrev pub RunIsReached : Type 0
RunIsReached =
    (cells : List (Ty × Value)) (block : Act) (end : Ending)
    → IsTypedOn cells block → ending_of (cell_value cells) (block_run cells block) ≡ Some end → Ends (block_start cells block) end

-- and `run` says what they lead to
abbrev pub ReachedIsRun : Type 0
ReachedIsRun =
    (cells : List (Ty × Value)) (block : Act) (end : Ending)
    → IsTypedOn cells block → Ends (block_start cells block) end → IsEndOf (cell_value cells) (block_run cells block) end

-- so the transitions come to one end: the block returns, throws or retries
abbrev pub EndsOnce : Type 0
EndsOnce =
    (cells : List (Ty × Value)) (block : Act)
    → IsTypedOn cells block
    → (end : Ending) × Ends (block_start cells block) end × ((other : Ending) → Ends (block_start cells block) other → AreSameEnds (cell_value cells) end other)

-- and whatever two of their ends are, they are the same but for the names of new cells
abbrev pub EndsAreSame : Type 0
EndsAreSame =
    (cells : List (Ty × Value)) (block : Act) (end other : Ending)
    → IsTypedOn cells block → Ends (block_start cells block) end → Ends (block_start cells block) other → AreSameEnds (cell_value cells) end other
