-- The locals in scope.
use Rattle.std.specs.Prelude.{◌≡◌, ℕ, ◌+◌, ◌*◌, ◌%◌, ◌≤◌, List, [], ◌∷◌, ◌++◌, length, Option, Some, None, if◌then◌else◌, ⊤}
use Rattle.std.specs.Int.{bit_at}
use Rattle.std.specs.Str.{bytes_eq}
use Rattle.stm_terms.specs.declared.kinds.Ty.{Ty}
use Rattle.stm_terms.specs.Limits.{most_refs}
use Rattle.stm_check.specs.declared.scope.Scope.{Scope}
use Rattle.stm_check.specs.declared.scope.Scope.TheVariants as S

-- names with types, innermost first
abbrev pub Locals : Type 0
Locals = List (List ℕ × Ty)

-- the locals that the code keeps
abbrev pub scope : Scope → Locals
scope S.Empty = []
scope (S.Local' name kind number bits p outer) = (name.now, kind) ∷ scope outer

-- the innermost local of a name: its number, counted from the outermost, and its type
abbrev pub innermost : List ℕ → Locals → Option (ℕ × Ty)
innermost name [] = None
innermost name (l ∷ outer) = if bytes_eq l.0 name then Some (length outer, l.1) else innermost name outer

-- the types, outermost first
abbrev pub types_of : Locals → List Ty
types_of [] = []
types_of (l ∷ outer) = types_of outer ++ l.1 ∷ []

-- the names, innermost first
abbrev pub names_of : Locals → List (List ℕ)
names_of [] = []
names_of (l ∷ outer) = l.0 ∷ names_of outer

-- each type has at most one `TVar` more than that of what a variable holds
abbrev pub ScopeHasFewRefs : Locals → Type 0
ScopeHasFewRefs [] = ⊤
ScopeHasFewRefs (l ∷ outer) = (l.1.refs ≤ most_refs + 1) × ScopeHasFewRefs outer

-- which of 64 bits a name has
unfoldable pub bit_of : List ℕ → ℕ
bit_of [] = 0
bit_of (b ∷ bs) = (b + 9 * (length (b ∷ bs) % 64)) % 64

-- the bit of each name is among these
abbrev pub HasBits : ℕ → List (List ℕ) → Type 0
HasBits bits [] = ⊤
HasBits bits (name ∷ outer) = (bit_at bits (bit_of name) ≡ 1) × HasBits bits outer

-- what the code keeps with each local is right: its number, and the bits of the names from it outwards
abbrev pub ScopeIsConsistent : Scope → Type 0
ScopeIsConsistent S.Empty = ⊤
ScopeIsConsistent (S.Local' name kind number bits p outer) =
    (number ≡ length (scope outer)) × HasBits bits (name.now ∷ names_of (scope outer)) × ScopeIsConsistent outer
