-- What a check has written, put together by its result.
use Rattle.std.proofs.Common.{◌≡◌, ℕ, List, [], Option, Some, None, Err, IfSome, inl, inr, refl, subst}
use Rattle.std.specs.Io.KnownBytes.{Keeps}
use Rattle.std.proofs.KnownBytes.{Appends-kept, Appends-nil, Keeps-refl}
use Rattle.stm_lines.specs.WrittenFronts.{WritesFront, WritesSome}
use Rattle.stm_lines.specs.declared.run_fault.RunFault.{RunFault}
use Rattle.stm_lines.specs.declared.run_fault.RunFault.TheVariants.{Write}
use Rattle.stm_console.specs.Checking.{BeginsFindingText, IsFinding, WritesFinding, finding_text}
use Rattle.stm_console.specs.declared.checking.Finding.{Finding}

-- a writer that holds what it held has got nothing, which begins what is printed of any bytes
pub finding_unwritten : (input x y : Option (List ℕ)) → Keeps x y → IfSome input (λ bytes. WritesSome (BeginsFindingText bytes) x y)
finding_unwritten None x y k = tt
finding_unwritten (Some bytes) x y k = ([], inl refl, Appends-kept x x y [] (Appends-nil x) k)

-- nothing was found
pub unfound : (input x : Option (List ℕ)) (e : RunFault) → WritesFinding input x x (Err e)
unfound input x e = (finding_unwritten input x x (Keeps-refl x), λ _. Keeps-refl x)

-- a front of the line of what was found
finding_begun : (input x y : Option (List ℕ)) (f : Finding) → IfSome input (λ bytes. IsFinding bytes f) → WritesFront x y (finding_text f)
    → IfSome input (λ bytes. WritesSome (BeginsFindingText bytes) x y)
finding_begun None x y f found w = tt
finding_begun (Some bytes) x y f found w = (w.0, inr (f, found, w.1), w.2)

-- the writer failed in the line
pub found_in_part : (input x y : Option (List ℕ)) (f : Finding) (line : List ℕ) (e : RunFault) → IfSome input (λ bytes. IsFinding bytes f) → line ≡ finding_text f
    → WritesFront x y line → e ≡ Write → WritesFinding input x y (Err e)
found_in_part input x y f line e found is w failed =
    (finding_begun input x y f found (subst (WritesFront x y) is w), λ other. absurd (other failed))
