-- A batch in two parts: its first byte, and the bytes after it.
use Rattle.std.proofs.Common.{◌≡◌, ◌<◌, ◌++◌, ◌+◌, ◌-◌, ◌∙◌, ℕ, List, ap, length, length-drop, take, drop, arith, sym}
use Rattle.std.proofs.lemmas.List.{take-append-drop, length-take, take_all}

-- the bytes after the first
abbrev pub remaining : List ℕ → List ℕ
remaining batch = take (length batch - 1) (drop 1 batch)

pub parts_of : (batch : List ℕ) → batch ≡ take 1 batch ++ remaining batch
parts_of batch =
    sym (take-append-drop 1 batch)
    ∙ ap (λ (l : List ℕ). take 1 batch ++ l) (sym (take_all (length batch - 1) (drop 1 batch) (omega (arith, length-drop 1 batch))))

pub one_more : (batch : List ℕ) → 0 < length batch → length batch ≡ 1 + length (remaining batch)
one_more batch some = omega (arith, some, length-take (length batch - 1) (drop 1 batch), length-drop 1 batch)

pub one_byte : (batch : List ℕ) → 0 < length batch → length (take 1 batch) ≡ 1
one_byte batch some = omega (arith, some, length-take 1 batch)
