-- What was written of an exploration, and after it its diagnostics.
use Rattle.std.proofs.Common.{◌≡◌, ℕ, Bool, true, List, [], ◌++◌, length, Err, refl, sym, subst, append-nil}
use Rattle.stm_options.specs.declared.explore_options.ExploreOptions.{ExploreOptions}
use Rattle.stm_script.specs.FaultText.{script_fault_lines}
use Rattle.stm_script.specs.declared.script_fault.ScriptFault.{ScriptFault}
use Rattle.stm_explore_script.specs.declared.warnings.Warning.{Warning}
use Rattle.stm_explore_script.specs.Diagnostics.{incomplete_diagnostics, no_room_diagnostics, right_diagnostics}
use Rattle.stm_explore_script.specs.ExploreEnd.{CameTo, HasTooManyStates, IsAllRight, IsFaulty}
use Rattle.stm_explore_script.specs.ExploreScript.{explore_script}
use Rattle.stm_explore_script.specs.Warnings.{AreWarningsOf}
use Rattle.stm_embed.specs.declared.exploring.Ended.{Ended}
use Rattle.stm_embed.specs.declared.exploring.Ended.TheVariants.{Right, Faulty, Incomplete, BadScript, NoRoom}
use Rattle.stm_embed.specs.Exploring.{AreDiagnosticsOf, IsDiagnosed, IsExplored, WritesFault, WritesNoFault}

-- these lines follow what is written, from this place on
abbrev pub Follows : List ℕ → List ℕ → ℕ → List ℕ → Type 0
Follows found lines place text = (place ≡ length found) × (text ≡ found ++ lines)

is_diagnosed : (script : List ℕ) (options : ExploreOptions) (ended : Ended) (found lines text : List ℕ) (place : ℕ) → IsExplored script options ended found
    → AreDiagnosticsOf script options ended lines → Follows found lines place text → IsDiagnosed script options ended place text
is_diagnosed script options ended found lines text place e d f = record {
  found = found;
  diagnostics = lines;
  explored = e;
  are_diagnostics = d;
  place_is = f.0;
  text_is = f.1;
}

pub right_diagnosed : (asked : Bool) (script : List ℕ) (options : ExploreOptions) (found text : List ℕ) (place : ℕ) (warnings shown : List Warning) → options.history ≡ asked → shown ≡ warnings
    → WritesNoFault options.history script options IsAllRight found → AreWarningsOf script options warnings → Follows found (right_diagnostics asked shown) place text
    → IsDiagnosed script options Right place text
right_diagnosed asked script options found text place warnings shown is same e a f =
    is_diagnosed script options Right found (right_diagnostics options.history warnings) text place e (warnings, a, refl)
    (subst (λ b. Follows found (right_diagnostics b warnings) place text) (sym is) (subst (λ ws. Follows found (right_diagnostics asked ws) place text) same f))

pub faulty_diagnosed : (script : List ℕ) (options : ExploreOptions) (found : List ℕ) (place : ℕ) → WritesFault options.history script options found → place ≡ length found
    → IsDiagnosed script options Faulty place found
faulty_diagnosed script options found place e p = is_diagnosed script options Faulty found [] found place e refl (p, sym (append-nil found))

pub incomplete_diagnosed : (asked : Bool) (script : List ℕ) (options : ExploreOptions) (found text : List ℕ) (place : ℕ) → options.history ≡ asked
    → WritesNoFault options.history script options HasTooManyStates found → Follows found (incomplete_diagnostics asked) place text → IsDiagnosed script options Incomplete place text
incomplete_diagnosed asked script options found text place is e f =
    is_diagnosed script options Incomplete found (incomplete_diagnostics options.history) text place e refl (subst (λ b. Follows found (incomplete_diagnostics b) place text) (sym is) f)

pub refused_diagnosed : (script : List ℕ) (options : ExploreOptions) (found text : List ℕ) (place : ℕ) (fault : ScriptFault) → explore_script script ≡ Err fault → found ≡ []
    → Follows found (script_fault_lines fault) place text → IsDiagnosed script options (BadScript fault) place text
refused_diagnosed script options found text place fault e none f = is_diagnosed script options (BadScript fault) found (script_fault_lines fault) text place (e, none) refl f

pub full_diagnosed : (script : List ℕ) (options : ExploreOptions) (found text : List ℕ) (place : ℕ) → options.history ≡ true → CameTo script options IsFaulty → found ≡ []
    → Follows found no_room_diagnostics place text → IsDiagnosed script options NoRoom place text
full_diagnosed script options found text place is e none f = is_diagnosed script options NoRoom found no_room_diagnostics text place (is, e, none) refl f
