-- What the last delivery to a waiting block brought, as a checkpoint has it.
use Rattle.std.specs.Prelude.{ℕ, Bool, List}
use Rattle.stm_terms.specs.declared.values.Value.{Value}
use Rattle.stm_terms.specs.declared.verdicts.Verdict.{Verdict}

-- the variables that the block read, with their values, its verdict, and whether it is stale since
pub record Delivered : Type 0 where
  pub reads : List (ℕ × Value)
  pub verdict : Verdict
  pub stale : Bool
