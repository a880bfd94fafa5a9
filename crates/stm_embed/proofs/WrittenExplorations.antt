-- What an exploration wrote on memory that held nothing.
use Rattle.std.proofs.Common.{◌≡◌, ℕ, Bool, true, false, List, [], ◌++◌, Some, Err, ap, sym, subst, ◌∙◌}
use Rattle.std.specs.Prelude.{Option}
use Rattle.stm_explore.specs.declared.explored.Outcome.{Outcome}
use Rattle.stm_options.specs.declared.explore_options.ExploreOptions.{ExploreOptions}
use Rattle.stm_explore_script.specs.ExploreEnd.{IsExploredText, IsFaultHistory, IsFaulty, WritesFound, WritesHistory, WritesNone}
use Rattle.stm_explore_script.specs.declared.exploring.ExploreFault.{ExploreFault}
use Rattle.stm_explore_script.specs.ExploreResult.{WritesExploration, WritesFaultHistory}
use Rattle.stm_embed.specs.Exploring.{WritesFault, WritesNoFault}

found_alone : (options : ExploreOptions) (script : List ℕ) (IsSo : Outcome → Type 0) (old new : List ℕ) → old ≡ [] → WritesFound options script IsSo (Some old) (Some new)
    → IsExploredText script options IsSo new
found_alone options script IsSo old new none w = subst (IsExploredText script options IsSo) (sym (w.2 ∙ ap (λ o. o ++ w.0) none)) w.1

history_alone : (options : ExploreOptions) (script old new : List ℕ) → old ≡ [] → WritesHistory options script (Some old) (Some new) → IsFaultHistory script options new
history_alone options script old new none w = subst (IsFaultHistory script options) (sym (w.2 ∙ ap (λ o. o ++ w.0) none)) w.1

-- what was found
pub no_fault_found : (asked : Bool) (options : ExploreOptions) (script : List ℕ) (IsSo : Outcome → Type 0) (old new : List ℕ) → asked ≡ false → old ≡ []
    → WritesFound options script IsSo (Some old) (Some new) → WritesNoFault asked script options IsSo new
no_fault_found true options script IsSo old new is none w = absurd cc
no_fault_found false options script IsSo old new is none w = found_alone options script IsSo old new none w

pub fault_found : (asked : Bool) (options : ExploreOptions) (script old new : List ℕ) → asked ≡ false → old ≡ []
    → WritesFound options script IsFaulty (Some old) (Some new) → WritesFault asked script options new
fault_found true options script old new is none w = absurd cc
fault_found false options script old new is none w = found_alone options script IsFaulty old new none w

-- the history of a fault
pub no_history : (asked : Bool) (options : ExploreOptions) (script : List ℕ) (IsSo : Outcome → Type 0) (old new : List ℕ) → asked ≡ true → old ≡ []
    → WritesNone options script IsSo (Some old) (Some new) → WritesNoFault asked script options IsSo new
no_history false options script IsSo old new is none w = absurd cc
no_history true options script IsSo old new is none w = (w.0, w.1 ∙ none)

pub history_written : (asked : Bool) (options : ExploreOptions) (script old new : List ℕ) → asked ≡ true → old ≡ []
    → WritesHistory options script (Some old) (Some new) → WritesFault asked script options new
history_written false options script old new is none w = absurd cc
history_written true options script old new is none w = history_alone options script old new none w

-- by the error that it is
pub written_by : (options : ExploreOptions) (input old new : Option (List ℕ)) (e f : ExploreFault) → e ≡ f → WritesExploration options input old new (Err e)
    → WritesExploration options input old new (Err f)
written_by options input old new e f is w = subst (λ x. WritesExploration options input old new (Err x)) is w

pub history_by : (options : ExploreOptions) (input old new : Option (List ℕ)) (e f : ExploreFault) → e ≡ f → WritesFaultHistory options input old new (Err e)
    → WritesFaultHistory options input old new (Err f)
history_by options input old new e f is w = subst (λ x. WritesFaultHistory options input old new (Err x)) is w
