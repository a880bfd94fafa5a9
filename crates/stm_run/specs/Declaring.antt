-- `tvar`: a variable is declared.
use Rattle.std.specs.Prelude.{ℕ, List, [], ◌∷◌, ◌++◌, Result, Ok, Err, length, codes, decimal}
use Rattle.stm_store.specs.Tables.{Declared}
use Rattle.stm_source.specs.DeclaredVariable.{variable_of}
use Rattle.stm_run.specs.declared.console.Console.{Console}
use Rattle.stm_run.specs.declared.console.Console.TheVariants.{Declaring, Open}
use Rattle.stm_source.specs.declared.refusal.Refusal.{Refusal}
use Rattle.stm_commands.specs.Refusals.{refused, refusal_text}

-- the line that reports the number and the name of a new variable
unfoldable pub tvar_line : ℕ → List ℕ → List ℕ
tvar_line number name = codes "tvar #" ++ decimal number ++ 32 ∷ name ++ 10 ∷ []

-- `tvar` of what a text declares: the table has the new variable, or the text is refused
abbrev pub tvar_text_step : List Declared → ℕ → Result Declared Refusal → Console × List ℕ
tvar_text_step table limit (Ok d) = (Declaring (table ++ d ∷ []) limit, tvar_line (length table) d.name)
tvar_text_step table limit (Err e) = (Declaring table limit, refusal_text e)

-- `tvar`: declares a variable, until the desk is open
abbrev pub tvar_step : Console → List ℕ → Console × List ℕ
tvar_step (Declaring table limit) argument = tvar_text_step table limit (variable_of table argument)
tvar_step (Open d) argument = (Open d, refused (codes "Late"))
