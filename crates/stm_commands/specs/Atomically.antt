-- `atomically`: a block takes effect at once, or waits under its ticket.
use Rattle.std.specs.Prelude.{ℕ, List, [], ◌∷◌, ◌++◌, Option, Some, None, Result, Ok, Err, codes, decimal}
use Rattle.stm_check.specs.TypedBlock.{Block}
use Rattle.stm_events.specs.declared.event.What.{What}
use Rattle.stm_events.specs.declared.event.What.TheVariants.{Submitted, Installed, Finished, Cancelled, Declared as DeclaredLate, Labelled}
use Rattle.stm_events.specs.SlowAtomically.{atomically}
use Rattle.stm_desk.specs.declared.errors.AtomicError.{AtomicError}
use Rattle.stm_desk.specs.DeskView.{DeskView, state_of}
use Rattle.stm_desk.specs.Refusals.{atomic_refusal}
use Rattle.stm_desk.specs.Settling.{with_whats}
use Rattle.stm_source.specs.declared.refusal.Refusal.{Refusal}
use Rattle.stm_source.specs.CompiledBlock.{compiled_block}
use Rattle.stm_commands.specs.Endings.{finished_line}
use Rattle.stm_commands.specs.OpenDesk.{OpenDesk, on_desk, known}
use Rattle.stm_commands.specs.Refusals.{refusal_text, atomic_error_text}

-- the line which says under which ticket a block waits
unfoldable pub waits_line : ℕ → List ℕ
waits_line t = codes "waits " ++ decimal t ++ 10 ∷ []

-- what is printed if this is the last that happened: a finish, as `finish` prints it, or a block that waits
abbrev pub last_line : What → List ℕ
last_line (Submitted t block) = []
last_line (Installed t v) = waits_line t
last_line (Finished t v first_new stale) = finished_line t first_new v stale
last_line (Cancelled t) = []
last_line (DeclaredLate name kind value) = []
last_line (Labelled t label) = []

-- the line of the last of what happened: this, or the last of what came after it
abbrev pub line_of_last : What → List What → List ℕ
line_of_last x [] = last_line x
line_of_last x (y ∷ ys) = line_of_last y ys

-- what is printed of all that happened: its last
abbrev pub ran_text : List What → List ℕ
ran_text [] = []
ran_text (x ∷ xs) = line_of_last x xs

-- `atomically` of a block, which is done or refused for this reason
abbrev pub atomically_block_step : DeskView → Block → Option AtomicError → DeskView × List ℕ
atomically_block_step d block None = (with_whats d 0 (atomically (state_of d) block), ran_text (atomically (state_of d) block))
atomically_block_step d block (Some e) = (d, atomic_error_text e)

-- `atomically` of what a text was compiled to
abbrev pub atomically_text_step : DeskView → Result Block Refusal → DeskView × List ℕ
atomically_text_step d (Ok block) = atomically_block_step d block (atomic_refusal d block)
atomically_text_step d (Err e) = (d, refusal_text e)

-- `atomically`: a transaction in one line
unfoldable pub atomically_step : OpenDesk → List ℕ → OpenDesk × List ℕ
atomically_step d argument = on_desk d (atomically_text_step d.desk (compiled_block (known d) argument))
