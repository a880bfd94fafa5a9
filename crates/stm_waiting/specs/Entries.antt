-- The waiting blocks as the code keeps them: a list of tickets with blocks, ascending, each with what its last delivery brought.
use Rattle.std.specs.Prelude.{ℕ, ◌<◌, nat_eq, nat_lt, if◌then◌else◌, List, [], ◌∷◌, Option, Some, None}
use Rattle.stm_terms.specs.declared.values.Value.{Value}
use Rattle.stm_waiting.specs.declared.waiting.Held.{Held}
use Rattle.stm_waiting.specs.declared.waiting.Waiting.{Waiting}

-- what is kept under a ticket
abbrev pub kept_at : ℕ → List (ℕ × Waiting) → Option Waiting
kept_at t [] = None
kept_at t (e ∷ es) = if nat_eq t e.0 then Some e.1 else kept_at t es

-- the others
abbrev pub lose : ℕ → List (ℕ × Waiting) → List (ℕ × Waiting)
lose t [] = []
lose t (e ∷ es) = if nat_eq t e.0 then es else e ∷ lose t es

-- a block with what a delivery brought
abbrev pub kept : Held → Waiting → Waiting
kept held w = record { block = w.block; held = Some held }

-- all that is kept, with what a delivery to a ticket brought
abbrev pub with_held : ℕ → Held → List (ℕ × Waiting) → List (ℕ × Waiting)
with_held t held [] = []
with_held t held (e ∷ es) = if nat_eq t e.0 then (e.0, kept held e.1) ∷ es else e ∷ with_held t held es

-- the tickets are below n
abbrev pub AllBelow : ℕ → List (ℕ × Waiting) → Type 0
AllBelow n [] = Unit {0}
AllBelow n (e ∷ es) = (e.0 < n) × AllBelow n es

-- the first ticket above this one
abbrev pub first_above : ℕ → List (ℕ × Waiting) → Option ℕ
first_above t [] = None
first_above t (e ∷ es) = if nat_lt t e.0 then Some e.0 else first_above t es

-- what is kept of a block's last delivery
abbrev pub held_reads : Option Held → List (ℕ × Value)
held_reads None = []
held_reads (Some h) = h.reads
