-- A code for the pairs of the index, by which a proof distinguishes them.
use Rattle.std.specs.FinSet as set
use Rattle.std.specs.Coded.{Coded, coded_ℕ, coded×}
use Rattle.stm_watch.specs.Pairs.{Pairs}

-- each set of pairs has a code of its own
abbrev pub pairs_code : Coded Pairs
pairs_code = set.code (coded× coded_ℕ coded_ℕ)
