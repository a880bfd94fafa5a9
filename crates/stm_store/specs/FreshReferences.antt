-- What renumbering a verdict's references asks of their numbers.
use Rattle.std.specs.Prelude.{⊤, ℕ, ◌+◌, ◌^◌, ◌<◌, List, [], ◌∷◌}
use Rattle.stm_terms.specs.declared.kinds.Ty.{Ty}
use Rattle.stm_terms.specs.declared.values.Ref.TheVariants.{New}
use Rattle.stm_terms.specs.declared.values.Value.{Value}
use Rattle.stm_terms.specs.declared.values.Value.TheVariants.{Var}

-- a new reference in the value gets a number of the machine's
abbrev pub HasNumber : ℕ → Value → Type 0
HasNumber n (Var (New k)) = n + k < 2 ^ 32
HasNumber n v = ⊤

-- these writes name cells among n, and their values can be renumbered
abbrev pub AreWritable : ℕ → List (ℕ × Value) → Type 0
AreWritable n [] = ⊤
AreWritable n (w ∷ ws) = (w.0 < n) × HasNumber n w.1 × AreWritable n ws

-- the values of these new cells can be renumbered
abbrev pub AreAddable : ℕ → List (Ty × Value) → Type 0
AreAddable n [] = ⊤
AreAddable n (c ∷ cs) = HasNumber n c.1 × AreAddable n cs
