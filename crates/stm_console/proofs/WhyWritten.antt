-- What `check --why` has written, put together by its result.
use Rattle.std.proofs.Common.{◌≡◌, ◌≢◌, ℕ, List, [], Option, Some, None, Result, Ok, Err, IfOk, IfErr, IfSome, OnErr, inl, inr, refl, subst, ◌∙◌}
use Rattle.std.specs.Io.KnownBytes.{Appends, Keeps}
use Rattle.std.proofs.KnownBytes.{Appends-kept, Appends-nil, Keeps-refl}
use Rattle.stm_terms.specs.Texts.{IsPrefixOf}
use Rattle.stm_lines.specs.declared.run_fault.RunFault.{RunFault}
use Rattle.stm_lines.specs.declared.run_fault.RunFault.TheVariants.{Write}
use Rattle.stm_lines.specs.WrittenFronts.{WritesSome}
use Rattle.stm_console.specs.Why.{BeginsAnswerWhy, IsAnswerWhy, WritesWhy}
use Rattle.stm_console.specs.declared.checking.Finding.{Finding}

-- a front of what is printed
pub answer_begun : (old new : Option (List ℕ)) (bytes text printed : List ℕ) (f : Finding) → printed ≡ text → IsAnswerWhy bytes f text → ((front : List ℕ) × IsPrefixOf front printed × Appends old new front)
    → (front : List ℕ) × BeginsAnswerWhy bytes front × Appends old new front
answer_begun old new bytes text printed f t a w = (w.0, inr (f, text, a, subst (λ (z : List ℕ). IsPrefixOf w.0 z) t w.1), w.2)

-- what holds of the bytes that were read holds of all bytes of the reader
of_all_bytes : (P : List ℕ → Type 0) (input : Option (List ℕ)) (items slice : List ℕ) → IfSome input (λ b. items ≡ b) → slice ≡ items → P slice → IfSome input P
of_all_bytes P None items slice all is h = tt
of_all_bytes P (Some b) items slice all is h = subst P (is ∙ all) h

pub why_written : (r : Result Finding RunFault) (input old new : Option (List ℕ)) (items slice : List ℕ) → IfSome input (λ b. items ≡ b) → slice ≡ items
    → IfOk r (λ f. WritesSome (IsAnswerWhy slice f) old new) → OnErr r (WritesSome (BeginsAnswerWhy slice) old new) → IfErr r (λ e. e ≢ Write → Keeps old new)
    → WritesWhy input old new r
why_written (Ok f) input old new items slice all is found part unfound =
    of_all_bytes (λ bytes. WritesSome (IsAnswerWhy bytes f) old new) input items slice all is found
why_written (Err e) input old new items slice all is found part unfound =
    (of_all_bytes (λ bytes. WritesSome (BeginsAnswerWhy bytes) old new) input items slice all is part, unfound)

-- a writer that holds what it held has got nothing, which begins what is printed of any bytes
pub why_unwritten : (input x y : Option (List ℕ)) → Keeps x y → IfSome input (λ bytes. WritesSome (BeginsAnswerWhy bytes) x y)
why_unwritten None x y k = tt
why_unwritten (Some bytes) x y k = ([], inl refl, Appends-kept x x y [] (Appends-nil x) k)

-- the bytes weren't read
pub unread : (input x : Option (List ℕ)) (e : RunFault) → WritesWhy input x x (Err e)
unread input x e = (why_unwritten input x x (Keeps-refl x), λ _. Keeps-refl x)
