-- The right side of an operator, by how its tier groups.
use Rattle.std.specs.Prelude.{ℕ, ◌+◌}
use Rattle.stm_terms.specs.declared.expr.Op.{Op}
use Rattle.stm_terms.specs.ParsedAst.{RawTerm, bin}
use Rattle.stm_parse.specs.declared.cursor.Grouping.{Grouping}
use Rattle.stm_parse.specs.declared.cursor.Grouping.TheVariants as grouping
use Rattle.stm_parse.specs.Descent.{Reader, ◌>>=◌, tier_at, climb_at}

-- the operators of the right operand of an operator of this tier are of tiers below this one
abbrev pub right_width : Grouping → ℕ → ℕ
right_width grouping.ToLeft k = k
right_width grouping.NotChained k = k
right_width grouping.ToRight k = k + 1

-- more operators may follow from this tier on
abbrev pub next_from : Grouping → ℕ → ℕ
next_from grouping.ToLeft k = k
next_from grouping.NotChained k = k + 1
next_from grouping.ToRight k = k + 1

-- the right operand, and what follows both
abbrev pub climb_within : ℕ → ℕ → ℕ → ℕ → RawTerm → Op → Reader RawTerm
climb_within inner from width n left o rest =
    tier_at inner n rest >>= (λ b. climb_at from width n (bin o left b.0) b.1)
