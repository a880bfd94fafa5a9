-- How an exploration ends, what it writes, and how C gets it.
use Rattle.std.specs.Prelude.{◌≡◌, ℕ, Bool, true, false, List, [], ◌++◌, length, Err}
use Rattle.stm_explore.specs.declared.explored.Outcome.{Outcome}
use Rattle.stm_explore.specs.declared.explored.Outcome.TheVariants as outcome
use Rattle.stm_options.specs.declared.explore_options.ExploreOptions.{ExploreOptions}
use Rattle.stm_script.specs.FaultText.{script_fault_lines}
use Rattle.stm_explore_script.specs.declared.warnings.Warning.{Warning}
use Rattle.stm_explore_script.specs.Diagnostics.{incomplete_diagnostics, no_room_diagnostics, right_diagnostics}
use Rattle.stm_explore_script.specs.ExploreEnd.{CameTo, IsExploredText, IsFaultHistory, IsFaulty}
use Rattle.stm_explore_script.specs.ExploreScript.{explore_script}
use Rattle.stm_explore_script.specs.Warnings.{AreWarningsOf}
use Rattle.stm_embed.specs.declared.exploring.Ended.{Ended}
use Rattle.stm_embed.specs.declared.exploring.Ended.TheVariants.{Right, Faulty, Incomplete, BadScript, NoRoom}
use Rattle.stm_embed.specs.declared.exploring.Wanted.{Wanted}
use Rattle.stm_embed.specs.Status.{bad_script, faulty, incomplete, no_room, right}

abbrev pub explore_options : Wanted → ExploreOptions
explore_options w = record {
  max_states = w.max_states;
  history = w.history;
  all = w.all;
  allow_throws = w.allow_throws;
  trace = w.trace;
  progress = w.progress;
}

-- what is written of an outcome that is no fault: what was found; if the history of a fault is asked for, nothing
abbrev pub WritesNoFault : Bool → List ℕ → ExploreOptions → (Outcome → Type 0) → List ℕ → Type 0
WritesNoFault false script options IsSo text = IsExploredText script options IsSo text
WritesNoFault true script options IsSo text = CameTo script options IsSo × (text ≡ [])

-- what is written of a fault: what was found, or its history if that is asked for
abbrev pub WritesFault : Bool → List ℕ → ExploreOptions → List ℕ → Type 0
WritesFault false script options text = IsExploredText script options IsFaulty text
WritesFault true script options text = IsFaultHistory script options text

-- an exploration of the script may end so, and write this text
abbrev pub IsExplored : List ℕ → ExploreOptions → Ended → List ℕ → Type 0
IsExplored script options Right text = WritesNoFault options.history script options (λ o. o ≡ outcome.Right) text
IsExplored script options Incomplete text = WritesNoFault options.history script options (λ o. o ≡ outcome.Incomplete) text
IsExplored script options Faulty text = WritesFault options.history script options text
IsExplored script options (BadScript fault) text = (explore_script script ≡ Err fault) × (text ≡ [])
IsExplored script options NoRoom text = (options.history ≡ true) × CameTo script options IsFaulty × (text ≡ [])

-- the diagnostics of an exploration of the script that ended so: the lines that the program writes on standard error
abbrev pub AreDiagnosticsOf : List ℕ → ExploreOptions → Ended → List ℕ → Type 0
AreDiagnosticsOf script options Right lines =
    (warnings : List Warning) × AreWarningsOf script options warnings × (lines ≡ right_diagnostics options.history warnings)
AreDiagnosticsOf script options Faulty lines = lines ≡ []
AreDiagnosticsOf script options Incomplete lines = lines ≡ incomplete_diagnostics options.history
AreDiagnosticsOf script options (BadScript fault) lines = lines ≡ script_fault_lines fault
AreDiagnosticsOf script options NoRoom lines = lines ≡ no_room_diagnostics

-- what was found, and after it the diagnostics if they are asked for
abbrev pub diagnosed_text : Bool → List ℕ → List ℕ → List ℕ
diagnosed_text true found diagnostics = found ++ diagnostics
diagnosed_text false found diagnostics = found

abbrev pub ended_status : Ended → ℕ
ended_status Right = right
ended_status Faulty = faulty
ended_status Incomplete = incomplete
ended_status (BadScript fault) = bad_script
ended_status NoRoom = no_room

-- the first line of the script that is invalid, or 0
abbrev pub invalid_line : Ended → ℕ
invalid_line (BadScript fault) = fault.line
invalid_line Right = 0
invalid_line Faulty = 0
invalid_line Incomplete = 0
invalid_line NoRoom = 0

-- ---- inside
-- a text is what is written of an exploration of the script that ended so, and, from this place on, its diagnostics
pub record IsDiagnosed (script : List ℕ) (options : ExploreOptions) (ended : Ended) (place : ℕ) (text : List ℕ) : Type 0 where
  pub found : List ℕ
  pub diagnostics : List ℕ
  pub explored : IsExplored script options ended found
  pub are_diagnostics : AreDiagnosticsOf script options ended diagnostics
  pub place_is : place ≡ length found
  pub text_is : text ≡ found ++ diagnostics
