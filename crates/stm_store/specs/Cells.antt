-- The cells of a store: what a block may rest on, when a verdict fits them, and what applying it does to them.
use Rattle.std.specs.Prelude.{⊤, ◌≡◌, ℕ, ◌+◌, ◌-◌, ◌^◌, ◌<◌, ◌≤◌, min, Bool, false, not, if◌then◌else◌, List, [], ◌∷◌, ◌++◌, Option, Some, None, Result, Ok, Err, map, filter, length, slice_set, slice_get, option_map}
use Rattle.stm_terms.specs.declared.kinds.Ty.{Ty}
use Rattle.stm_terms.specs.declared.values.Ref.{Ref}
use Rattle.stm_terms.specs.declared.values.Ref.TheVariants.{Old, New}
use Rattle.stm_terms.specs.declared.values.Value.{Value}
use Rattle.stm_terms.specs.declared.values.Value.TheVariants.{Int, Bool as Truth, Unit as Nil, Var}
use Rattle.stm_terms.specs.declared.verdicts.Verdict.{Verdict}
use Rattle.stm_terms.specs.declared.verdicts.Verdict.TheVariants.{Commits, Throws, Blocks}
use Rattle.stm_terms.specs.Changes.{no_changes, find}
use Rattle.stm_terms.specs.Limits.{most_refs}
use Rattle.stm_terms.specs.Value.{same_value}
use Rattle.stm_terms.specs.Typing.{TypeEnv, type_of, Rising}
use Rattle.stm_store.specs.declared.cell.Cell.{Cell}
use Rattle.stm_store.specs.declared.ready.Applied.{Applied}
use Rattle.stm_store.specs.declared.store.StoreError.{StoreError}
use Rattle.stm_store.specs.declared.store.StoreError.TheVariants.{NotStore, NoMemory}

-- how many variables a table may declare, and a store may have
abbrev pub most_cells : ℕ
most_cells = 1000000

-- a cell without its count, as blocks see it
abbrev pub plain : Cell → Ty × Value
plain c = (c.kind, c.value)

-- the cells as blocks see them
abbrev pub plains : List Cell → List (Ty × Value)
plains cells = map plain cells

-- the types of a store's variables
abbrev pub kinds_of : List (Ty × Value) → TypeEnv
kinds_of cells i = option_map (λ c. c.0) (slice_get cells i)

-- each cell holds a value of its type
abbrev pub StoreIsTyped : List (Ty × Value) → Type 0
StoreIsTyped cells = (i : ℕ) (c : Ty × Value) → slice_get cells i ≡ Some c → type_of (kinds_of cells) no_changes c.1 ≡ Some c.0

-- each cell's type has at most 8 `TVar`
abbrev pub StoreHasAtMost8Refs : List (Ty × Value) → Type 0
StoreHasAtMost8Refs cells = (i : ℕ) (c : Ty × Value) → slice_get cells i ≡ Some c → c.0.refs ≤ most_refs

-- what holds of every store, and of its copies
pub record IsStore (cells : List (Ty × Value)) : Type 0 where
  pub small : length cells ≤ most_cells
  pub typed : StoreIsTyped cells
  pub low : StoreHasAtMost8Refs cells

-- the cells become a store; or they are none; or they are one, and memory ran out
abbrev pub MakesStore : List Cell → Result (List Cell) StoreError → Type 0
MakesStore cells (Ok store) = store ≡ cells
MakesStore cells (Err NotStore) = IsStore (plains cells) → ⊥
MakesStore cells (Err NoMemory) = IsStore (plains cells)

-- these variables exist with these types
abbrev pub Covers : List (Ty × Value) → List (ℕ × Ty) → Type 0
Covers cells [] = ⊤
Covers cells (u ∷ us) = (kinds_of cells u.0 ≡ Some u.1) × Covers cells us

-- A commit fits the cells: its writes ascend, name existing cells and hold values of their types; its new cells have types
-- of at most 8 `TVar` and hold values of these; and its result is a value there.
pub record CommitFits (cells : List (Ty × Value)) (ws : List (ℕ × Value)) (ns : List (Ty × Value)) (given : Value) : Type 0 where
  pub rising : Rising ws
  pub writes : (i : ℕ) (v : Value) → find i ws ≡ Some v →
      (t : Ty) × (kinds_of cells i ≡ Some t) × (type_of (kinds_of cells) (record { writes = ws; news = ns }) v ≡ Some t)
  pub news : (k : ℕ) (c : Ty × Value) → slice_get ns k ≡ Some c →
      (type_of (kinds_of cells) (record { writes = ws; news = ns }) c.1 ≡ Some c.0) × (c.0.refs ≤ most_refs)
  pub result : (t : Ty) × (type_of (kinds_of cells) (record { writes = ws; news = ns }) given ≡ Some t)

-- a throw and a retry fit every store
unfoldable pub Fits : List (Ty × Value) → Verdict → Type 0
Fits cells (Commits writes news result) = CommitFits cells writes news result
Fits cells (Throws f) = ⊤
Fits cells Blocks = ⊤

-- in a store that had n cells, the k-th new cell becomes variable n + k
abbrev pub renumbered_ref : ℕ → Ref → Ref
renumbered_ref n (Old i) = Old i
renumbered_ref n (New k) = Old (n + k)

-- a value whose reference, if it is one, names its variable
abbrev pub renumbered : ℕ → Value → Value
renumbered n (Int z) = Int z
renumbered n (Truth b) = Truth b
renumbered n Nil = Nil
renumbered n (Var r) = Var (renumbered_ref n r)

-- one more, unless it is the greatest
abbrev pub counted : ℕ → ℕ
counted n = min (n + 1) (2 ^ 64 - 1)

-- a cell that a value is written to: it is counted once more, unless the value is the one that it has
abbrev pub rewritten : ℕ → Value → Cell → Cell
rewritten n v c =
    record {
      kind = c.kind;
      value = renumbered n v;
      count = if same_value (renumbered n v) c.value then c.count else counted c.count;
    }

-- the cells with the i-th written, if it exists
abbrev pub with_write : ℕ → List Cell → ℕ → Value → Option Cell → List Cell
with_write n cells i v (Some c) = slice_set cells i (rewritten n v c)
with_write n cells i v None = cells

-- the cells with each of these written, in order
abbrev pub with_writes : ℕ → List (ℕ × Value) → List Cell → List Cell
with_writes n [] cells = cells
with_writes n (w ∷ ws) cells = with_writes n ws (with_write n cells w.0 w.1 (slice_get cells w.0))

-- a new cell, which no block has written yet
abbrev pub new_cell : ℕ → Ty × Value → Cell
new_cell n c = record { kind = c.0; value = renumbered n c.1; count = 0 }

-- the cells after a verdict: its writes made, those that change a value counted, and its new cells at the end
abbrev pub applied : List Cell → Verdict → List Cell
applied cells (Commits writes news result) = with_writes (length cells) writes cells ++ map (new_cell (length cells)) news
applied cells (Throws f) = cells
applied cells Blocks = cells

-- the result that the verdict gives there
abbrev pub result_there : List Cell → Verdict → Option Value
result_there cells (Commits writes news result) = Some (renumbered (length cells) result)
result_there cells (Throws f) = None
result_there cells Blocks = None

-- the new cells of a verdict
abbrev pub made_by : Verdict → List (Ty × Value)
made_by (Commits writes news result) = news
made_by (Throws f) = []
made_by Blocks = []

-- what is reported of a verdict that was applied
abbrev pub applied_answer : List Cell → Verdict → Applied
applied_answer cells verdict = record { first_new = length cells; result = result_there cells verdict }

-- the value that a verdict writes to a variable
abbrev pub written_by : Verdict → ℕ → Option Value
written_by (Commits writes news result) i = find i writes
written_by (Throws f) i = None
written_by Blocks i = None

-- a cell after a commit that writes this value to it, or none
abbrev pub after_write : ℕ → Option Value → Cell → Cell
after_write n (Some v) c = rewritten n v c
after_write n None c = c

-- the value of a cell becomes another one
abbrev pub changes_value : ℕ → Option Cell → Value → Bool
changes_value n None v = false
changes_value n (Some c) v = not (same_value (renumbered n v) c.value)

-- the variables that a verdict changes: it writes them, and their value afterwards is another one
abbrev pub changed_by : List Cell → Verdict → List ℕ
changed_by cells (Commits writes news result) =
    map (λ w. w.0) (filter (λ w. changes_value (length cells) (slice_get cells w.0) w.1) writes)
changed_by cells (Throws f) = []
changed_by cells Blocks = []

-- What applying a verdict means, variable by variable: one that the verdict writes has the value written and, if that is
-- another value, is counted once more; any other is as it was; and the new cells come after them, in order.
pub record IsApplied (old : List Cell) (verdict : Verdict) (new : List Cell) : Type 0 where
  pub olds : (i : ℕ) → i < length old
      → slice_get new i ≡ option_map (after_write (length old) (written_by verdict i)) (slice_get old i)
  pub news : (k : ℕ) → slice_get new (length old + k) ≡ option_map (new_cell (length old)) (slice_get (made_by verdict) k)
