-- What a result says of the refusal.
use Rattle.std.proofs.Common.{◌≡◌, ◌≢◌, Option, Some, None, Ok, Err, refl, ap}
use Rattle.stm_terms.specs.UnlessNoMemory.{RefusedAs}

-- nothing refuses what is accepted
pub accepted : {A E : Type 0} (no_memory : E) (o : Option E) (x : A) → RefusedAs no_memory o (Ok x) → o ≡ None
accepted no_memory None x h = refl
accepted no_memory (Some r) x h = cc

-- an error that isn't out of memory is the refusal
pub refusal_is : (A : Type 0) {E : Type 0} (no_memory : E) (o : Option E) (e : E) → RefusedAs {A = A} no_memory o (Err e) → e ≢ no_memory → o ≡ Some e
refusal_is A no_memory None e h n = absurd (n h)
refusal_is A no_memory (Some r) e h n = let q : r ≡ e = cc in ap Some q
