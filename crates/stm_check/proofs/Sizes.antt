-- How large an expression is.
use Rattle.std.proofs.Common.{ℕ, ◌+◌}
use Rattle.stm_terms.specs.ParsedAst.{RawTerm, bin}

-- how many operators stand in an expression
abbrev pub operators : RawTerm → ℕ
operators (bin op a b) = 1 + operators a + operators b
operators e = 0
