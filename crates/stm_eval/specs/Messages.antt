-- What a message of an evaluator says: a block, what it read, and its verdict. A fragment of a store has the variables that
-- were read and no others; on it a block is undefined if it reads any other.
use Rattle.std.specs.Prelude.{◌≡◌, ℕ, Some, List}
use Rattle.stm_terms.specs.declared.values.Value.{Value}
use Rattle.stm_terms.specs.declared.verdicts.Verdict.{Verdict}
use Rattle.stm_terms.specs.Ast.{Act}
use Rattle.stm_terms.specs.Changes.{Variables, find, of_fragment}
use Rattle.stm_terms.specs.ReadSet.{reads_of}
use Rattle.stm_terms.specs.Verdict.{verdict}

-- the variables underneath have the values that were read
abbrev pub Agrees : List (ℕ × Value) → Variables → Type 0
Agrees reads under = (i : ℕ) (v : Value) → find i reads ≡ Some v → under i ≡ Some v

-- on the fragment of what it read, alone, the block has this verdict, and it reads all of the fragment
pub record MessageIsValid (block : Act) (reads : List (ℕ × Value)) (found : Verdict) : Type 0 where
  pub defined : verdict (of_fragment reads) block ≡ Some found
  pub all_read : reads_of (of_fragment reads) block ≡ reads

-- on these variables the block has this verdict, and it reads these of them, with these values
pub record Holds (block : Act) (under : Variables) (reads : List (ℕ × Value)) (found : Verdict) : Type 0 where
  pub verdict_is : verdict under block ≡ Some found
  pub reads_are : reads_of under block ≡ reads
