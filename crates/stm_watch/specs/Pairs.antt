-- The pairs of a variable and a ticket that watches it.
use Rattle.std.specs.Prelude.{◌≡◌, ℕ, Bool, ◌&&◌, ◌||◌, not, nat_eq, List}
use Rattle.std.specs.FinSet as set
use Rattle.std.specs.List.{list_any}
use Rattle.std.specs.List.Sorted.{IsStrictlyIncreasing}
use Rattle.std.specs.Ordering.{nat_cmp, ordering_then}
use Rattle.std.specs.declared.cmp.Ordering.{Ordering}
use Rattle.stm_terms.specs.declared.values.Value.{Value}

-- by variable, then by ticket
abbrev pub pair_cmp : ℕ × ℕ → ℕ × ℕ → Ordering
pair_cmp p q = ordering_then (nat_cmp p.0 q.0) (nat_cmp p.1 q.1)

-- a set of pairs (variable, ticket)
abbrev pub Pairs : Type 0
Pairs = set.FinSet pair_cmp

-- the ticket watches the variable
abbrev pub has_pair : Pairs → ℕ → ℕ → Bool
has_pair pairs v t = set.contains pairs (v, t)

-- the variable is among those read
abbrev pub is_read : List (ℕ × Value) → ℕ → Bool
is_read reads v = list_any (λ r. nat_eq v r.0) reads

-- the pair is that of a variable read with the ticket
abbrev pub is_pair_of : ℕ → List (ℕ × Value) → ℕ → ℕ → Bool
is_pair_of ticket reads v t = nat_eq t ticket && is_read reads v

-- the old pairs, and those of the variables read with the ticket
abbrev pub WithReads : Pairs → ℕ → List (ℕ × Value) → Pairs → Type 0
WithReads old ticket reads new = (v t : ℕ) → has_pair new v t ≡ (has_pair old v t || is_pair_of ticket reads v t)

-- the old pairs without those of the variables read with the ticket
abbrev pub WithoutReads : Pairs → ℕ → List (ℕ × Value) → Pairs → Type 0
WithoutReads old ticket reads new = (v t : ℕ) → has_pair new v t ≡ (has_pair old v t && not (is_pair_of ticket reads v t))

-- the old pairs without those of these variables
abbrev pub WithoutVariables : Pairs → List ℕ → Pairs → Type 0
WithoutVariables old variables new = (v t : ℕ) → has_pair new v t ≡ (has_pair old v t && not (list_any (nat_eq v) variables))

-- the ticket watches some of these variables
abbrev pub watches : Pairs → List ℕ → ℕ → Bool
watches pairs variables t = list_any (λ v. has_pair pairs v t) variables

-- these are the tickets that watch some of these variables, in ascending order, each once
pub record AreWatchers (pairs : Pairs) (variables tickets : List ℕ) : Type 0 where
  pub rising : IsStrictlyIncreasing tickets
  -- a ticket is among them if it watches some of the variables, and no other ticket is
  pub watchers : (t : ℕ) → list_any (nat_eq t) tickets ≡ watches pairs variables t
