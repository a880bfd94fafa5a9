-- What a storm wrote, put together by its result.
use Rattle.std.proofs.Common.{◌≡◌, ℕ, List, Ok, Err, Option, Some, None, refl, sym, ◌∙◌}
use Rattle.std.proofs.lemmas.Option.{IfSome_then}
use Rattle.std.specs.Prelude.{IfSome, OnOk, Result}
use Rattle.std.specs.Io.KnownBytes.{Appends, Keeps}
use Rattle.stm_script.specs.declared.script_fault.ScriptFault.{ScriptFault}
use Rattle.stm_script.specs.StormScript.{StormScript, storm_script}
use Rattle.stm_storm.specs.declared.storming.StormFault.{StormFault}
use Rattle.stm_storm.specs.declared.storming.StormFault.TheVariants as storm_fault
use Rattle.stm_storm.specs.StormEnd.{ReadsStorm}
use Rattle.stm_storm.specs.StormText.{IsFailedStormText, IsStormText, KeepsOfInvalidStorm, WritesStorm}

-- a script that was read isn't invalid
right_kept : (input old new : Option (List ℕ)) (s : StormScript) → IfSome input (λ i. storm_script i ≡ Ok s) → KeepsOfInvalidStorm input old new
right_kept input old new s read =
    IfSome_then input read (λ i is invalid. (let clash : Ok s ≡ Err invalid.0 = sym is ∙ invalid.1 in absurd (cc clash)))

-- nothing was written, whatever the script is
all_kept : (input old new : Option (List ℕ)) → Keeps old new → KeepsOfInvalidStorm input old new
all_kept None old new keeps = tt
all_kept (Some i) old new keeps = λ invalid. keeps

-- the script was read
pub writes_storm : (input old new : Option (List ℕ)) (s : StormScript) (r : Result (Unit {0}) StormFault)
    → IfSome input (λ i. storm_script i ≡ Ok s)
    → OnOk r ((i : List ℕ) → storm_script i ≡ Ok s → (text : List ℕ) × IsStormText i text × Appends old new text)
    → (r ≡ Err storm_fault.Replay → (i : List ℕ) → storm_script i ≡ Ok s → (text : List ℕ) × IsFailedStormText i text × Appends old new text)
    → ((f : ScriptFault) → r ≡ Err (storm_fault.Script f) → ⊥)
    → WritesStorm input old new r
writes_storm input old new s (Ok done) read right failed unread = IfSome_then input read (λ i is. right i is)
writes_storm input old new s (Err storm_fault.Replay) read right failed unread = IfSome_then input read (λ i is. failed refl i is)
writes_storm input old new s (Err (storm_fault.Script f)) read right failed unread = absurd (unread f refl)
writes_storm input old new s (Err (storm_fault.Run f)) read right failed unread = right_kept input old new s read

-- it wasn't, and nothing was written
pub unread_storm : (input old new : Option (List ℕ)) (e : StormFault) → Keeps old new → ReadsStorm input (Err e) → WritesStorm input old new (Err e)
unread_storm input old new storm_fault.Replay keeps unread = absurd unread
unread_storm input old new (storm_fault.Script f) keeps unread = (unread, keeps)
unread_storm input old new (storm_fault.Run f) keeps unread = all_kept input old new keeps
