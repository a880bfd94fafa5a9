-- The levels of types that are left.
use Rattle.std.proofs.Common.{◌≡◌, ℕ, zero, suc, ◌-◌, ◌<◌, refl, ap, arith, Some, None}
use Rattle.stm_parse.specs.Descent.{inside_type, type_at, bare_at}

pub inside_type_none : (n k : ℕ) → n ≡ 0 → inside_type n k ≡ None
unfolding inside_type
inside_type_none zero k e = refl
inside_type_none (suc n) k e = absurd (omega arith)

pub inside_type_some : (n k : ℕ) → 0 < n → inside_type n k ≡ Some (type_at (n - 1) k)
unfolding inside_type type_at bare_at
inside_type_some zero k h = absurd (omega arith)
inside_type_some (suc n) k h = let e : n ≡ suc n - 1 = omega arith in ap (λ m. Some (type_at m k)) e
