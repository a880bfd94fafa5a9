-- The levels and tiers that are left.
use Rattle.std.proofs.Common.{◌≡◌, ℕ, zero, suc, ◌+◌, ◌-◌, ◌<◌, ◌≤◌, List, ◌∙◌, refl, ap, arith, Some, None}
use Rattle.stm_parse.specs.declared.token.Lexeme.{Lexeme}
use Rattle.stm_terms.specs.ParsedAst.{RawTerm}
use Rattle.stm_parse.specs.Grammar.{deepest, widest, grouping_of}
use Rattle.stm_parse.proofs.ExpressionReaders as expressions
use Rattle.stm_parse.specs.Descent.{one_level_inside, atom_at, tier_at, tail_at, tail_turn, op_next}

pub inside_none : (n : ℕ) → n ≡ 0 → one_level_inside n ≡ None
unfolding one_level_inside
inside_none zero e = refl
inside_none (suc n) e = absurd (omega arith)

pub inside_some : (n : ℕ) → 0 < n → one_level_inside n ≡ Some (tier_at widest (n - 1))
unfolding one_level_inside tier_at atom_at
inside_some zero h = absurd (omega arith)
inside_some (suc n) h = let e : n ≡ suc n - 1 = omega arith in ap (λ m. Some (tier_at widest m)) e

pub tail_more : (k n : ℕ) (left : RawTerm) (toks : List Lexeme) → n ≤ deepest → tail_at k n left toks ≡ tail_turn (grouping_of k) (tier_at k n) (tier_at (k + 1) n) (tail_at k n) left toks (op_next k toks)
tail_more k n left toks h = let e : suc k ≡ k + 1 = omega arith in expressions.tail_more k n left toks h ∙ ap (λ j. tail_turn (grouping_of k) (tier_at k n) (tier_at j n) (tail_at k n) left toks (op_next k toks)) e
