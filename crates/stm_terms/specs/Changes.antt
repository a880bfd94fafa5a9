-- A block's view: the variables underneath, which no run changes, and what the block has changed so far. A variable is
-- marked in the view where the block's own changes have it, and unmarked otherwise.
use Rattle.std.specs.Prelude.{ℕ, nat_lt, nat_eq, List, [], ◌∷◌, ◌++◌, Option, Some, None, slice_get, slice_set, option_map, if◌then◌else◌}
use Rattle.stm_terms.specs.declared.kinds.Ty.{Ty}
use Rattle.stm_terms.specs.declared.values.Ref.{Ref}
use Rattle.stm_terms.specs.declared.values.Ref.TheVariants.{Old, New}
use Rattle.stm_terms.specs.declared.values.Value.{Value}

-- a list of pairs in the order of their keys: the value at a key
abbrev pub find : ℕ → List (ℕ × Value) → Option Value
find k [] = None
find k (e ∷ es) = if nat_eq e.0 k then Some e.1 else find k es

-- the list with the pair in its place; a pair that has the key is replaced
abbrev pub put : ℕ → Value → List (ℕ × Value) → List (ℕ × Value)
put k v [] = (k, v) ∷ []
put k v (e ∷ es) =
    if nat_lt e.0 k then e ∷ put k v es else if nat_eq e.0 k then (k, v) ∷ es else (k, v) ∷ e ∷ es

-- the variables underneath, of a store or of a fragment of one: the value of each that is there
abbrev pub Variables : Type 0
Variables = ℕ → Option Value

-- what a block has changed: the variables that it has written, rising, and the cells that it has made, in order
pub record Changes : Type 0 where
  pub writes : List (ℕ × Value)
  pub news : List (Ty × Value)

-- what a block has changed when it begins
abbrev pub no_changes : Changes
no_changes = record { writes = []; news = [] }

-- the variables of a store, a list of cells with their types
abbrev pub cell_value : List (Ty × Value) → Variables
cell_value cells i = option_map (λ c. c.1) (slice_get cells i)

-- the variables of a fragment of a store, a list of variables with their values
abbrev pub of_fragment : List (ℕ × Value) → Variables
of_fragment reads i = find i reads

-- the first value that is there
abbrev pub first_of : Option Value → Option Value → Option Value
first_of (Some v) o = Some v
first_of None o = o

-- what the view has at a reference: the block's own value, else that of the variable underneath
abbrev pub view_at : Variables → Changes → Ref → Option Value
view_at under h (Old i) = first_of (find i h.writes) (under i)
view_at under h (New k) = cell_value h.news k

-- the changes with a made cell written; none where the block has made no such cell
abbrev pub cell_written : Changes → ℕ → Value → Option (Ty × Value) → Option Changes
cell_written h k v (Some c) = Some (record h { news = slice_set h.news k (c.0, v) })
cell_written h k v None = None

-- the changes with a reference written, which marks a variable
abbrev pub written : Changes → Ref → Value → Option Changes
written h (Old i) v = Some (record h { writes = put i v h.writes })
written h (New k) v = cell_written h k v (slice_get h.news k)

-- the changes with a cell made
abbrev pub made : Changes → Ty → Value → Changes
made h t v = record h { news = h.news ++ (t, v) ∷ [] }
