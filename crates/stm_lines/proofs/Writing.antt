-- A text written part by part.
use Rattle.std.proofs.Common.{◌≡◌, ℕ, ◌+◌, ◌-◌, List, length, ap, ◌∙◌, take, drop, Option, sym, subst}
use Rattle.std.proofs.Math.Seq.{take-add, take-length}
use Rattle.std.proofs.lemmas.List.{length-drop}
use Rattle.std.proofs.lemmas.List.{take-append-drop}
use Rattle.std.proofs.KnownBytes.{Appends-trans}
use Rattle.std.specs.Io.KnownBytes.{Appends}
use Rattle.stm_terms.specs.Texts.{IsPrefixOf}

-- the rest of a slice
pub drop-all : (at : ℕ) (text : List ℕ) → take (length text - at) (drop at text) ≡ drop at text
drop-all at text = ap (λ n. take n (drop at text)) (sym (length-drop at text)) ∙ take-length (drop at text)

pub Appends-more : (a b c : Option (List ℕ)) (at n : ℕ) (text : List ℕ) → Appends a b (take at text) → Appends b c (take n (take (length text - at) (drop at text))) → Appends a c (take (at + n) text)
Appends-more a b c at n text p q =
    let q' = subst (λ (rest : List ℕ). Appends b c (take n rest)) (drop-all at text) q in
    subst (Appends a c) (sym (take-add at n text)) (Appends-trans a b c _ _ p q')

pub IsPrefixOf-take : (at : ℕ) (text : List ℕ) → IsPrefixOf (take at text) text
IsPrefixOf-take at text = (drop at text, sym (take-append-drop at text))
