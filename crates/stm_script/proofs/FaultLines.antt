-- The lines of a fault, written one after another.
use Rattle.std.proofs.Common.{◌≡◌, ℕ, List, [], ◌∷◌, ◌++◌, Option, subst, append_assoc}
use Rattle.std.proofs.KnownBytes.{Appends-trans}
use Rattle.std.specs.Io.KnownBytes.{Appends}
use Rattle.stm_script.specs.declared.script_fault.ScriptFault.{ScriptFault}
use Rattle.stm_script.specs.FaultText.{script_fault_text, reason_line, reason_name, reason_place, script_fault_lines}

pub fault_whole : (f : ScriptFault) (name : List ℕ) (place : Option ℕ) (a b c : Option (List ℕ)) → name ≡ reason_name f.reason → place ≡ reason_place f.reason
    → Appends a b (script_fault_text f ++ 10 ∷ []) → Appends b c (reason_line f name place) → Appends a c (script_fault_lines f)
fault_whole f name place a b c p q first more =
    let named : Appends b c (reason_line f (reason_name f.reason) place) = subst (λ (n : List ℕ). Appends b c (reason_line f n place)) p more in
    let reason : Appends b c (reason_line f (reason_name f.reason) (reason_place f.reason)) = subst (λ (o : Option ℕ). Appends b c (reason_line f (reason_name f.reason) o)) q named in
    subst (Appends a c) (append_assoc (script_fault_text f) (10 ∷ []) _) (Appends-trans a b c _ _ first reason)
