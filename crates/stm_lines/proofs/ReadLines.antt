-- The lines of an input are those that are taken of it, one after another.
use Rattle.std.proofs.Common.{◌≡◌, ◌≢◌, ℕ, ◌<◌, false, List, [], ◌∷◌, ◌++◌, length, sym, ap, ◌∙◌, append_assoc, append-nil, arith, cond}
use Rattle.std.proofs.lemmas.Bool.Decides.{nat_tests}
use Rattle.std.proofs.lemmas.List.Elements.{All-head, All-tail}
use Rattle.std.specs.Prelude.{nat_eq}
use Rattle.stm_lines.specs.Lines.{drop_return, lines_from, whole_lines_from, NoLineFeed}

same_test : (b : ℕ) → (b ≡ 10 → ⊥) → nat_eq b 10 ≡ false
same_test b h = grind (arith, nat_tests)

-- a byte that is no line feed joins the line
byte : (begun : List ℕ) (b : ℕ) (more : List ℕ) → (b ≡ 10 → ⊥) → lines_from begun (b ∷ more) ≡ lines_from (begun ++ b ∷ []) more
byte begun b more h = ap (λ test. cond test (drop_return begun ∷ lines_from [] more) (lines_from (begun ++ b ∷ []) more)) (same_test b h)

whole_byte : (begun : List ℕ) (b : ℕ) (more : List ℕ) → (b ≡ 10 → ⊥) → whole_lines_from begun (b ∷ more) ≡ whole_lines_from (begun ++ b ∷ []) more
whole_byte begun b more h = ap (λ test. cond test (drop_return begun ∷ whole_lines_from [] more) (whole_lines_from (begun ++ b ∷ []) more)) (same_test b h)

-- so does a part without line feeds
part : (begun bytes more : List ℕ) → NoLineFeed bytes → lines_from begun (bytes ++ more) ≡ lines_from (begun ++ bytes) more
part begun [] more h = ap (λ l. lines_from l more) (sym (append-nil begun))
part begun (b ∷ bytes) more h =
    let first : b ≢ 10 = All-head (λ b. b ≢ 10) b bytes h in
    let others : NoLineFeed bytes = All-tail (λ b. b ≢ 10) b bytes h in
    byte begun b (bytes ++ more) first ∙ part (begun ++ b ∷ []) bytes more others ∙ ap (λ l. lines_from l more) (append_assoc begun (b ∷ []) bytes)

whole_part : (begun bytes more : List ℕ) → NoLineFeed bytes → whole_lines_from begun (bytes ++ more) ≡ whole_lines_from (begun ++ bytes) more
whole_part begun [] more h = ap (λ l. whole_lines_from l more) (sym (append-nil begun))
whole_part begun (b ∷ bytes) more h =
    let first : b ≢ 10 = All-head (λ b. b ≢ 10) b bytes h in
    let others : NoLineFeed bytes = All-tail (λ b. b ≢ 10) b bytes h in
    whole_byte begun b (bytes ++ more) first ∙ whole_part (begun ++ b ∷ []) bytes more others ∙ ap (λ l. whole_lines_from l more) (append_assoc begun (b ∷ []) bytes)

-- a line that a line feed ends comes first
pub lines_from-whole : (bytes more : List ℕ) → NoLineFeed bytes → lines_from [] ((bytes ++ 10 ∷ []) ++ more) ≡ drop_return bytes ∷ lines_from [] more
lines_from-whole bytes more h = ap (lines_from []) (append_assoc bytes (10 ∷ []) more) ∙ part [] bytes (10 ∷ more) h

pub whole_lines_from-whole : (bytes more : List ℕ) → NoLineFeed bytes → whole_lines_from [] ((bytes ++ 10 ∷ []) ++ more) ≡ drop_return bytes ∷ whole_lines_from [] more
whole_lines_from-whole bytes more h = ap (whole_lines_from []) (append_assoc bytes (10 ∷ []) more) ∙ whole_part [] bytes (10 ∷ more) h

-- a line that the end ends is the last
pub lines_from-last : (bytes : List ℕ) → NoLineFeed bytes → 0 < length bytes → lines_from [] bytes ≡ bytes ∷ []
lines_from-last [] h k = absurd (omega arith)
lines_from-last (b ∷ bytes) h k = ap (lines_from []) (sym (append-nil (b ∷ bytes))) ∙ part [] (b ∷ bytes) [] h

pub whole_lines_from-last : (bytes : List ℕ) → NoLineFeed bytes → whole_lines_from [] bytes ≡ []
whole_lines_from-last bytes h = ap (whole_lines_from []) (sym (append-nil bytes)) ∙ whole_part [] bytes [] h
