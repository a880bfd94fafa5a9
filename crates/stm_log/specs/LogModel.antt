-- What a log keeps: the changes that each frame sees, and what was read underneath.
use Rattle.std.specs.Prelude.{◌≡◌, ℕ, List, [], ◌∷◌, Some}
use Rattle.stm_terms.specs.declared.values.Value.{Value}
use Rattle.stm_terms.specs.declared.values.Ref.{Ref}
use Rattle.stm_terms.specs.Changes.{Variables, Changes, put, written}
use Rattle.stm_terms.specs.ReadSet.{looked_at, insert_reads}

-- the changes in the top frame and in those below it, and the variables read, ascending, with their values
pub record Logged : Type 0 where
  pub top : Changes
  pub below : List Changes
  pub reads : List (ℕ × Value)

-- the reads with those of another list put among them
abbrev pub joined_reads : List (ℕ × Value) → List (ℕ × Value) → List (ℕ × Value)
joined_reads [] reads = reads
joined_reads (e ∷ es) reads = joined_reads es (put e.0 e.1 reads)

-- the log after a read of a reference: a variable that the top view hasn't written is among the reads, with its value underneath
abbrev pub with_read : Variables → Ref → Logged → Logged
with_read under at log = record log { reads = insert_reads under (looked_at log.top at) log.reads }

-- the log after a write: the top view is the old one with the value written, and all else is as it was
pub record IsWritten (at : Ref) (value : Value) (old new : Logged) : Type 0 where
  pub top : written old.top at value ≡ Some new.top
  pub below : new.below ≡ old.below
  pub reads : new.reads ≡ old.reads
