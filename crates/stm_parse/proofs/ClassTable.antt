-- A table of flags is compared with a test at each byte, by computing.
use Rattle.std.proofs.Common.{◌≡◌, ℕ, ◌<◌, Bool, true, not, nat_eq, bit_and, get_or, List}
use Rattle.std.proofs.lemmas.Bool.{agree_below, agree_below_at}

-- the table has one of the flags at this byte
abbrev pub has_flag : List ℕ → ℕ → ℕ → Bool
has_flag table flag b = not (nat_eq (bit_and (get_or table b 0) flag) 0)

pub from_table : (table : List ℕ) (flag : ℕ) (test : ℕ → Bool) (b : ℕ) → b < 256 → agree_below (has_flag table flag) test 256 ≡ true → has_flag table flag b ≡ test b
from_table table flag test b lt h = agree_below_at (has_flag table flag) test 256 b h lt
