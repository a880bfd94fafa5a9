-- Noting variables one after another.
use Rattle.std.proofs.Common.{◌≡◌, ℕ, List, [], ◌∷◌, ◌++◌, refl}
use Rattle.stm_terms.specs.declared.kinds.Ty.{Ty}
use Rattle.stm_terms.specs.Typing.{TypeEnv, record_use, record_uses}

pub record_uses_append : (kinds : TypeEnv) (is js : List ℕ) (us : List (ℕ × Ty)) → record_uses kinds (is ++ js) us ≡ record_uses kinds js (record_uses kinds is us)
record_uses_append kinds [] js us = refl
record_uses_append kinds (i ∷ is) js us = record_uses_append kinds is js (record_use kinds i us)
