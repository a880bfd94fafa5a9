-- `declare`: a variable gets the next number and a name, whenever it is declared.
use Rattle.std.specs.Prelude.{ℕ, List, [], ◌∷◌, ◌++◌, Option, Some, None, Result, Ok, Err, codes, decimal, length}
use Rattle.stm_store.specs.Tables.{Declared}
use Rattle.stm_events.specs.declared.errors.LateDeclareError.{LateDeclareError}
use Rattle.stm_events.specs.declared.event.What.TheVariants.{Declared as DeclaredLate}
use Rattle.stm_desk.specs.DeskView.{DeskView, state_of, with_event}
use Rattle.stm_desk.specs.Refusals.{late_declare_refusal}
use Rattle.stm_source.specs.DeclaredVariable.{late_variable_of}
use Rattle.stm_source.specs.declared.refusal.Refusal.{Refusal}
use Rattle.stm_commands.specs.OpenDesk.{OpenDesk, on_desk, known}
use Rattle.stm_commands.specs.Refusals.{refusal_text, late_declare_error_text}

-- the line with the number and the name of a new variable
unfoldable pub declared_line : ℕ → List ℕ → List ℕ
declared_line number name = codes "declared #" ++ decimal number ++ 32 ∷ name ++ 10 ∷ []

-- `declare` of a variable, which is done or refused for this reason; its number is the next one of the store
abbrev pub declare_variable_step : DeskView → Declared → Option LateDeclareError → DeskView × List ℕ
declare_variable_step d v None =
    (with_event d 0 (DeclaredLate v.name v.kind v.value), declared_line (length (state_of d).store) v.name)
declare_variable_step d v (Some e) = (d, late_declare_error_text e)

-- `declare` of what a text declares
abbrev pub declare_text_step : DeskView → Result Declared Refusal → DeskView × List ℕ
declare_text_step d (Ok v) = declare_variable_step d v (late_declare_refusal d v.name v.kind v.value)
declare_text_step d (Err e) = (d, refusal_text e)

-- `declare`: the first reason that holds refuses it: a fault of the grammar, a first value that is no declared name, and why the
-- desk doesn't declare the variable
unfoldable pub declare_step : OpenDesk → List ℕ → OpenDesk × List ℕ
declare_step d argument = on_desk d (declare_text_step d.desk (late_variable_of (known d) argument))
