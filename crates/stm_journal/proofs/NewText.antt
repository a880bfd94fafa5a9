-- What a file has that one text was written to.
use Rattle.std.proofs.Common.{◌≡◌, ℕ, List, [], Option, Some, subst}
use Rattle.std.specs.Io.KnownBytes.{Appends}

-- nothing was written before it, so it is all that the file has
pub written_exactly : (old new : Option (List ℕ)) (text file : List ℕ) → old ≡ Some [] → Appends old new text → new ≡ Some file → file ≡ text
written_exactly old new text file empty writes all =
    subst (λ (o : Option (List ℕ)). Appends (Some []) o text) all (subst (λ (o : Option (List ℕ)). Appends o new text) empty writes)
