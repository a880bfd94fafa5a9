-- Lines, and those of them whose checkpoint can't be made.
use Rattle.std.proofs.Common.{◌≡◌, ℕ, List, [], ◌∷◌, ◌++◌, refl, ap, ◌∙◌}
use Rattle.stm_run.specs.LineCheckpoints.{Turn, turn_lines, made_turn}

-- lines whose checkpoints can all be made
abbrev pub plains : (Cause : Type 0) → List (List ℕ) → List (Turn Cause)
plains Cause [] = []
plains Cause (line ∷ lines) = made_turn line ∷ plains Cause lines

pub lines_of_plains : (Cause : Type 0) (lines : List (List ℕ)) → turn_lines (plains Cause lines) ≡ lines
lines_of_plains Cause [] = refl
lines_of_plains Cause (line ∷ lines) = ap (λ (ls : List (List ℕ)). line ∷ ls) (lines_of_plains Cause lines)

pub turn_lines_append : {Cause : Type 0} (xs ys : List (Turn Cause)) → turn_lines (xs ++ ys) ≡ turn_lines xs ++ turn_lines ys
turn_lines_append [] ys = refl
turn_lines_append (x ∷ xs) ys = ap (λ (ls : List (List ℕ)). x.line ∷ ls) (turn_lines_append xs ys)

-- these lines and more
pub more_lines : {Cause : Type 0} (xs : List (Turn Cause)) (more : List (List ℕ)) → turn_lines (xs ++ plains Cause more) ≡ turn_lines xs ++ more
more_lines {Cause = Cause} xs more = turn_lines_append xs (plains Cause more) ∙ ap (λ (ls : List (List ℕ)). turn_lines xs ++ ls) (lines_of_plains Cause more)
