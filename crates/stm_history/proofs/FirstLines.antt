-- The first line of some bytes, as a search for its line feed finds it.
use Rattle.std.proofs.Common.{◌≡◌, ◌≢◌, ℕ, ◌+◌, ◌<◌, List, [], ◌∷◌, ◌++◌, take, drop, get_or, sym, ap, ◌∙◌, arith, add-one, eqb-true, eq-eqb, Some, None}
use Rattle.std.proofs.Math.Seq.{drop-cons}
use Rattle.std.proofs.lemmas.List.{take-append-drop, get_or-take, length-take}
use Rattle.std.proofs.lemmas.List.Elements.{All-from_get_or, All-head, All-tail}
use Rattle.std.specs.List.{All}
use Rattle.memchr.specs.Find.{IsFirstByte, is_byte}
use Rattle.stm_history.specs.Progress.{NoFeed}

each : (bytes : List ℕ) → All (λ b. b ≢ 10) bytes → NoFeed bytes
each [] h = tt
each (b ∷ bytes) h = (All-head (λ b. b ≢ 10) b bytes h, each bytes (All-tail (λ b. b ≢ 10) b bytes h))

-- the search for a line feed found none
pub none_found : (bytes : List ℕ) → IsFirstByte (is_byte 10) bytes None → NoFeed bytes
none_found bytes h = each bytes (All-from_get_or (λ b. b ≢ 10) bytes 0 (λ k l e. h k (omega arith) l (eq-eqb _ _ e)))

-- none is before the first
pub none_before : (bytes : List ℕ) (at : ℕ) → IsFirstByte (is_byte 10) bytes (Some at) → NoFeed (take at bytes)
none_before bytes at f = each (take at bytes) (All-from_get_or (λ b. b ≢ 10) (take at bytes) 0 (λ k l e.
    let low : k < at = omega (arith, length-take at bytes) in
    f.0.before k (omega arith) low (eq-eqb _ _ (sym (get_or-take at bytes k 0 low) ∙ e))))

-- the bytes before the first line feed, the line feed, and the rest
pub split_at : (bytes : List ℕ) (at : ℕ) → IsFirstByte (is_byte 10) bytes (Some at) → bytes ≡ take at bytes ++ (10 ∷ drop (at + 1) bytes)
split_at bytes at h =
    let next : drop at bytes ≡ get_or bytes at 0 ∷ drop (at + 1) bytes = rw add-one (drop-cons bytes at 0 h.0.high) in
    sym (take-append-drop at bytes) ∙ ap (λ l. take at bytes ++ l) (next ∙ ap (λ b. b ∷ drop (at + 1) bytes) (eqb-true _ _ h.1))
