-- What a writer got of a text, or that it got some text of which a fact holds.
use Rattle.std.specs.Prelude.{ℕ, List, Option, Result, MatchResult}
use Rattle.std.specs.Io.KnownBytes.{Appends}
use Rattle.stm_terms.specs.Texts.{IsPrefixOf}

-- some front of the text was written, and no more
abbrev pub WritesFront : Option (List ℕ) → Option (List ℕ) → List ℕ → Type 0
WritesFront old new text = (front : List ℕ) × IsPrefixOf front text × Appends old new front

-- the text was written, or after a fault a part of it from its front
abbrev pub WritesText : {E : Type 0} → Result Unit E → Option (List ℕ) → Option (List ℕ) → List ℕ → Type 0
WritesText r old new text = MatchResult r (λ _. Appends old new text) (λ _. WritesFront old new text)

-- a text of which P holds was written
abbrev pub WritesSome : (List ℕ → Type 0) → Option (List ℕ) → Option (List ℕ) → Type 0
WritesSome P old new = (text : List ℕ) × P text × Appends old new text
