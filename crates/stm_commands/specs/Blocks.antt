-- `try`, `looks` and `submit`: commands whose argument is a block.
use Rattle.std.specs.Prelude.{ℕ, List, [], ◌∷◌, ◌++◌, Option, Some, None, Result, Ok, Err, codes, decimal}
use Rattle.stm_terms.specs.declared.values.Value.{Value}
use Rattle.stm_terms.specs.declared.verdicts.Verdict.{Verdict}
use Rattle.stm_terms.specs.Texts.{write_text, list_text, verdict_text}
use Rattle.stm_terms.specs.ReadSet.{reads_of}
use Rattle.stm_check.specs.TypedBlock.{Block}
use Rattle.stm_store.specs.declared.cell.Cell.{Cell}
use Rattle.stm_events.specs.declared.errors.SubmitError.{SubmitError}
use Rattle.stm_events.specs.declared.event.What.TheVariants.{Submitted}
use Rattle.stm_events.specs.SlowDesk.{under, verdict_on}
use Rattle.stm_desk.specs.DeskView.{DeskView, state_of, with_event}
use Rattle.stm_desk.specs.Refusals.{submit_refusal}
use Rattle.stm_source.specs.declared.refusal.Refusal.{Refusal}
use Rattle.stm_source.specs.CompiledBlock.{compiled_block}
use Rattle.stm_commands.specs.OpenDesk.{OpenDesk, on_desk, known, present}
use Rattle.stm_commands.specs.Refusals.{refusal_text, submit_error_text}

-- a block that is well typed has a verdict
unfoldable pub verdict_line : Option Verdict → List ℕ
verdict_line (Some v) = verdict_text v ++ 10 ∷ []
verdict_line None = []

-- the verdict of a block that was compiled, or why its text is refused
abbrev pub tried_text : List Cell → Result Block Refusal → List ℕ
tried_text cells (Ok block) = verdict_line (verdict_on cells block)
tried_text cells (Err e) = refusal_text e

-- `try`: the verdict of a block on the present store
unfoldable pub try_answer : OpenDesk → List ℕ → List ℕ
try_answer d argument = tried_text (present d) (compiled_block (known d) argument)

-- the variables that were read, each with its value, as a line
unfoldable pub reads_line : List (ℕ × Value) → List ℕ
reads_line reads = codes "reads " ++ list_text write_text reads ++ 10 ∷ []

-- what a block that was compiled reads, or why its text is refused
abbrev pub looked_text : List Cell → Result Block Refusal → List ℕ
looked_text cells (Ok block) = reads_line (reads_of (under cells) block.tree)
looked_text cells (Err e) = refusal_text e

-- `looks`: what a block reads on the present store
unfoldable pub looks_answer : OpenDesk → List ℕ → List ℕ
looks_answer d argument = looked_text (present d) (compiled_block (known d) argument)

-- the line with a new ticket
unfoldable pub ticket_line : ℕ → List ℕ
ticket_line ticket = codes "ticket " ++ decimal ticket ++ 10 ∷ []

-- `submit` of a block: it waits from now on, under the next ticket, or it is refused
abbrev pub submit_block_step : DeskView → Block → Option SubmitError → DeskView × List ℕ
submit_block_step d block None = (with_event d 0 (Submitted (state_of d).next block), ticket_line (state_of d).next)
submit_block_step d block (Some e) = (d, submit_error_text e)

-- `submit` of what a text was compiled to
abbrev pub submit_text_step : DeskView → Result Block Refusal → DeskView × List ℕ
submit_text_step d (Ok block) = submit_block_step d block (submit_refusal d block)
submit_text_step d (Err e) = (d, refusal_text e)

-- `submit`
unfoldable pub submit_step : OpenDesk → List ℕ → OpenDesk × List ℕ
submit_step d argument = on_desk d (submit_text_step d.desk (compiled_block (known d) argument))
