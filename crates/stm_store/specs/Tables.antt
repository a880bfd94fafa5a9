-- The declared variables, in the order of their declaration.
use Rattle.std.specs.Prelude.{◌≡◌, ℕ, ◌+◌, ◌≤◌, Bool, false, not, ◌&&◌, nat_le, nat_lt, List, [], ◌∷◌, Option, Some, None, map, length, is_some, slice_get, take, IsTrue, if◌then◌else◌}
use Rattle.std.specs.Str.{bytes_eq}
use Rattle.stm_terms.specs.declared.kinds.Ty.{Ty}
use Rattle.stm_terms.specs.declared.values.Value.{Value}
use Rattle.stm_terms.specs.Limits.{most_refs}
use Rattle.stm_terms.specs.Names.{is_name_text}
use Rattle.stm_terms.specs.Typing.{type_of, same_ty}
use Rattle.stm_terms.specs.Changes.{no_changes}
use Rattle.stm_store.specs.declared.cell.Cell.{Cell}
use Rattle.stm_store.specs.declared.table.DeclareError.{DeclareError}
use Rattle.stm_store.specs.declared.table.DeclareError.TheVariants.{Twice, TypeOfValue, TableFull}
use Rattle.stm_store.specs.Cells.{most_cells, kinds_of, StoreIsTyped, StoreHasAtMost8Refs}

-- a variable's name, the type of its cell, and its first value
pub record Declared : Type 0 where
  pub name : List ℕ
  pub kind : Ty
  pub value : Value

-- the number of the variable of a name, counted from i
abbrev pub number_from : List ℕ → ℕ → List Declared → Option ℕ
number_from name i [] = None
number_from name i (d ∷ ds) = if bytes_eq d.name name then Some i else number_from name (i + 1) ds

-- the number of the variable of a name
abbrev pub number_of : List ℕ → List Declared → Option ℕ
number_of name table = number_from name 0 table

-- a variable as blocks see it
abbrev pub declared_cell : Declared → Ty × Value
declared_cell d = (d.kind, d.value)

-- the variables of a table as blocks see them
abbrev pub declared_cells : List Declared → List (Ty × Value)
declared_cells table = map declared_cell table

-- the cell of a variable that no block has written
abbrev pub opened_cell : Declared → Cell
opened_cell d = record { kind = d.kind; value = d.value; count = 0 }

-- the cells of a store that opens on the table: its types and values, counts 0
abbrev pub opened : List Declared → List Cell
opened table = map opened_cell table

-- the type exists, and is this one
abbrev pub is_type : Option Ty → Ty → Bool
is_type (Some u) t = same_ty u t
is_type None t = false

-- whether a value is of a type, if these variables are declared
abbrev pub is_of : List (Ty × Value) → Value → Ty → Bool
is_of cells value kind = is_type (type_of (kinds_of cells) no_changes value) kind

-- a variable may be declared with a type of at most 8 `TVar` and a value of it
abbrev pub may_hold : List (Ty × Value) → Ty → Value → Bool
may_hold cells kind value = nat_le kind.refs most_refs && is_of cells value kind

-- why a variable can't be declared: the first reason that holds
abbrev pub declare_refusal : List Declared → List ℕ → Ty → Value → Option DeclareError
declare_refusal table name kind value =
    if is_some (number_of name table) then Some Twice
    else if not (may_hold (declared_cells table) kind value) then Some TypeOfValue
    else if nat_lt (length table) most_cells then None else Some TableFull

-- each name is a name of the language
abbrev pub NamesAreNames : List Declared → Type 0
NamesAreNames table = (i : ℕ) (d : Declared) → slice_get table i ≡ Some d → IsTrue (is_name_text d.name)

-- no name is declared twice: each has the number of its own variable
abbrev pub NamesAreDistinct : List Declared → Type 0
NamesAreDistinct table = (i : ℕ) (d : Declared) → slice_get table i ≡ Some d → number_of d.name table ≡ Some i

-- a table that declarations make: each name is a name of the language, and no declaration is refused, in their order
abbrev pub AreDeclared : List Declared → Type 0
AreDeclared table = (i : ℕ) (d : Declared) → slice_get table i ≡ Some d →
    IsTrue (is_name_text d.name) × (declare_refusal (take i table) d.name d.kind d.value ≡ None)

-- what holds of every table
pub record IsTable (table : List Declared) : Type 0 where
  pub small : length table ≤ most_cells
  pub typed : StoreIsTyped (declared_cells table)
  pub low : StoreHasAtMost8Refs (declared_cells table)
  pub named : NamesAreNames table
  pub distinct : NamesAreDistinct table
  pub declared : AreDeclared table
