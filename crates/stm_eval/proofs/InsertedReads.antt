-- Reads one after another.
use Rattle.std.proofs.Common.{◌≡◌, ℕ, List, [], ◌∷◌, ◌++◌, refl}
use Rattle.stm_terms.specs.declared.values.Value.{Value}
use Rattle.stm_terms.specs.Changes.{Variables}
use Rattle.stm_terms.specs.ReadSet.{insert_reads, insert_read}

pub noted-append : (under : Variables) (is js : List ℕ) (reads : List (ℕ × Value)) → insert_reads under (is ++ js) reads ≡ insert_reads under js (insert_reads under is reads)
noted-append under [] js reads = refl
noted-append under (i ∷ is) js reads = noted-append under is js (insert_read i (under i) reads)

pub ruleset reads_in_turn = (noted-append)
