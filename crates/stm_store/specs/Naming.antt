-- The names that blocks may use, each with the number and the type of its variable. A variable that is declared at the start has its
-- place as its number. One that is declared later has the next number of the store: blocks may have made variables before it.
use Rattle.std.specs.Prelude.{◌≡◌, ℕ, ◌+◌, ◌<◌, Bool, true, ◌&&◌, nat_eq, nat_le, List, [], ◌∷◌, Option, Some, None, map, take, slice_get, option_map, IsTrue, if◌then◌else◌}
use Rattle.std.specs.Str.{bytes_eq}
use Rattle.stm_terms.specs.declared.kinds.Ty.{Ty}
use Rattle.stm_terms.specs.declared.values.Value.{Value}
use Rattle.stm_terms.specs.Changes.{no_changes}
use Rattle.stm_terms.specs.Limits.{most_refs}
use Rattle.stm_terms.specs.Names.{is_name_text}
use Rattle.stm_terms.specs.Typing.{TypeEnv, type_of, kinds_in}
use Rattle.stm_store.specs.Tables.{Declared, is_type}

-- a variable's name, its number, and the type of its cell
pub record Named : Type 0 where
  pub name : List ℕ
  pub number : ℕ
  pub kind : Ty

-- the variable without its name
abbrev pub named_use : Named → ℕ × Ty
named_use n = (n.number, n.kind)

-- the variables that have names, with their types
abbrev pub named_uses : List Named → List (ℕ × Ty)
named_uses known = map named_use known

-- the types of the variables that have names
abbrev pub known_kinds : List Named → TypeEnv
known_kinds known = kinds_in (named_uses known)

-- the number of the variable of a name
abbrev pub number_named : List ℕ → List Named → Option ℕ
number_named name [] = None
number_named name (n ∷ ns) = if bytes_eq n.name name then Some n.number else number_named name ns

-- a variable by its number, if it has one, with the type of its cell
abbrev pub with_kind : TypeEnv → Option ℕ → Option (ℕ × Ty)
with_kind kinds (Some i) = option_map (λ t. (i, t)) (kinds i)
with_kind kinds None = None

-- the variable of a name: its number, and the type of its cell
abbrev pub variable_named : List ℕ → List Named → Option (ℕ × Ty)
variable_named name known = with_kind (known_kinds known) (number_named name known)

-- the name of the variable of a number
abbrev pub name_numbered : ℕ → List Named → Option (List ℕ)
name_numbered number [] = None
name_numbered number (n ∷ ns) = if nat_eq n.number number then Some n.name else name_numbered number ns

-- each number is its place, counted from i: before a variable with a name there is none without one
abbrev pub is_gapless_from : ℕ → List Named → Bool
is_gapless_from i [] = true
is_gapless_from i (n ∷ ns) = nat_eq n.number i && is_gapless_from (i + 1) ns

-- the variables with names are the first ones
abbrev pub is_gapless : List Named → Bool
is_gapless known = is_gapless_from 0 known

-- the names of the variables of a table, counted from i
abbrev pub named_from : ℕ → List Declared → List Named
named_from i [] = []
named_from i (d ∷ ds) = record { name = d.name; number = i; kind = d.kind } ∷ named_from (i + 1) ds

-- the names of the variables of a table
abbrev pub named_in_table : List Declared → List Named
named_in_table table = named_from 0 table

-- whether a value is of a type, if these names are known: a reference must be to a variable that has a name
abbrev pub is_of_known : List Named → Value → Ty → Bool
is_of_known known value kind = is_type (type_of (known_kinds known) no_changes value) kind

-- a variable may be declared with a type of at most 8 `TVar` and a value of it
abbrev pub may_hold_known : List Named → Ty → Value → Bool
may_hold_known known kind value = nat_le kind.refs most_refs && is_of_known known value kind

-- a variable of the type may be declared with some value, if these names are known
abbrev pub MayHaveType : List Named → Ty → Type 0
MayHaveType known kind = (v : Value) × (may_hold_known known kind v ≡ true)

-- all of the numbers are below n
abbrev pub NumbersAreBelow : ℕ → List Named → Type 0
NumbersAreBelow n known = (i : ℕ) (d : Named) → slice_get known i ≡ Some d → d.number < n

-- what holds of all names that are known: each is a name of the language; the numbers ascend, and each name has the number, and each
-- number the type, of its own variable, so no name and no number is there twice; and each could be declared after those before it
pub record AreKnown (known : List Named) : Type 0 where
  pub named : (i : ℕ) (d : Named) → slice_get known i ≡ Some d → IsTrue (is_name_text d.name)
  pub ascending : (i j : ℕ) (d e : Named) → slice_get known i ≡ Some d → slice_get known j ≡ Some e → i < j → d.number < e.number
  pub distinct : (i : ℕ) (d : Named) → slice_get known i ≡ Some d → number_named d.name known ≡ Some d.number
  pub typed : (i : ℕ) (d : Named) → slice_get known i ≡ Some d → known_kinds known d.number ≡ Some d.kind
  pub held : (i : ℕ) (d : Named) → slice_get known i ≡ Some d → MayHaveType (take i known) d.kind
