-- Where the line feeds of a chunk are.
use Rattle.std.proofs.Common.{◌≡◌, ◌≢◌, ℕ, ◌+◌, ◌≤◌, ◌<◌, Some, None, List, ◌∷◌, ◌++◌, take, drop, get_or, sym, ap, ◌∙◌, arith, eqb-true, eq-eqb, add-one}
use Rattle.std.proofs.Math.Seq.{drop-cons}
use Rattle.std.proofs.lemmas.List.{take-append-drop, get_or-take, length-take}
use Rattle.std.proofs.lemmas.List.Elements.{All-from_get_or}
use Rattle.memchr.specs.Find.{IsFirstByte, Nowhere, Passes, is_byte}
use Rattle.stm_lines.specs.Lines.{NoLineFeed}

-- the search for a line feed found none
pub NoLineFeed-all : (bytes : List ℕ) → IsFirstByte (is_byte 10) bytes None → NoLineFeed bytes
NoLineFeed-all bytes h = All-from_get_or (λ b. b ≢ 10) bytes 0 (λ k l e. h k (omega arith) l (eq-eqb _ _ e))

-- no line feed is up to this place
pub NoLineFeed-take : (bytes : List ℕ) (n at : ℕ) → Nowhere (Passes (is_byte 10) bytes) 0 at → n ≤ at → NoLineFeed (take n bytes)
NoLineFeed-take bytes n at h le = All-from_get_or (λ b. b ≢ 10) (take n bytes) 0 (λ k l e.
    let low : k < n = omega (arith, length-take n bytes) in
    h k (omega arith) (omega arith) (eq-eqb _ _ (sym (get_or-take n bytes k 0 low) ∙ e)))

-- the bytes before the first line feed, the line feed, and the rest
pub split-at : (bytes : List ℕ) (at : ℕ) → IsFirstByte (is_byte 10) bytes (Some at) → bytes ≡ take at bytes ++ (10 ∷ drop (at + 1) bytes)
split-at bytes at h =
    let next : drop at bytes ≡ get_or bytes at 0 ∷ drop (at + 1) bytes = rw add-one (drop-cons bytes at 0 h.0.high) in
    sym (take-append-drop at bytes) ∙ ap (λ l. take at bytes ++ l) (next ∙ ap (λ b. b ∷ drop (at + 1) bytes) (eqb-true _ _ h.1))
