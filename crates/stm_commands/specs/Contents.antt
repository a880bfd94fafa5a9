-- `show`, `reads`, `store` and `history`: what there is.
use Rattle.std.specs.Prelude.{ℕ, ◌+◌, List, [], ◌∷◌, ◌++◌, Option, Some, None, codes, decimal, length}
use Rattle.stm_terms.specs.declared.verdicts.Verdict.{Verdict}
use Rattle.stm_terms.specs.Texts.{type_text, value_text, verdict_text}
use Rattle.stm_terms.specs.ReadSet.{reads_of}
use Rattle.stm_check.specs.TypedBlock.{Block}
use Rattle.stm_store.specs.declared.cell.Cell.{Cell}
use Rattle.stm_store.specs.Naming.{Named, name_numbered}
use Rattle.stm_history_text.specs.HistoryText.{history_text as text_of_history}
use Rattle.stm_history_text.specs.Starts.{written_start}
use Rattle.stm_events.specs.SlowDesk.{Since, Waiter, Slow, Standing, New, Stale, Current, under, find_waiter, standing}
use Rattle.stm_desk.specs.DeskView.{state_of}
use Rattle.stm_lines.specs.NumberArgument.{number_argument}
use Rattle.stm_source.specs.NameText.{name_text}
use Rattle.stm_commands.specs.Arguments.{with_number, with_nothing, argument_refused}
use Rattle.stm_commands.specs.Blocks.{reads_line}
use Rattle.stm_commands.specs.OpenDesk.{OpenDesk, known, present}
use Rattle.stm_commands.specs.Refusals.{refused}

-- ---- show
-- a verdict, which a block that was evaluated has
abbrev pub shown_verdict : Option Verdict → List ℕ
shown_verdict (Some v) = verdict_text v
shown_verdict None = []

-- how a block stands, with its last verdict
abbrev pub standing_text : Standing → List ℕ
standing_text New = codes " new"
standing_text (Stale v) = codes " stale " ++ shown_verdict v
standing_text (Current v) = codes " current " ++ shown_verdict v

-- how a block waits on the present store
unfoldable pub waiter_line : List Cell → Waiter → List ℕ
waiter_line store w = decimal w.ticket ++ standing_text (standing store w) ++ 10 ∷ []

-- how each of the blocks waits on the present store, a line each
abbrev pub waiter_lines : List Cell → List Waiter → List ℕ
waiter_lines store [] = []
waiter_lines store (w ∷ ws) = waiter_line store w ++ waiter_lines store ws

-- how each waiting block stands, and how many wait
unfoldable pub show_text : Slow → List ℕ
show_text s = waiter_lines s.store s.waiters ++ codes "waiting " ++ decimal (length s.waiters) ++ 10 ∷ []

-- `show`: how each waiting block stands, in ascending order of the tickets
unfoldable pub show_answer : OpenDesk → List ℕ → List ℕ
show_answer d argument = with_nothing (show_text (state_of d.desk)) argument_refused argument

-- ---- reads
-- what a block read at its last delivery, or that there was none
abbrev pub read_text : Block → Option Since → List ℕ
read_text block (Some s) = reads_line (reads_of (under s.store_then) block.tree)
read_text block None = refused (codes "NotEvaluated")

-- what the block of a waiter read at its last delivery, or that no block waits under the ticket
abbrev pub waiter_reads_text : Option Waiter → List ℕ
waiter_reads_text (Some w) = read_text w.block w.since
waiter_reads_text None = refused (codes "NoTicket")

-- `reads`: what a block read at its last delivery
unfoldable pub reads_answer : OpenDesk → List ℕ → List ℕ
reads_answer d argument =
    with_number (λ t. waiter_reads_text (find_waiter t (state_of d.desk).waiters)) argument_refused (number_argument argument)

-- what a cell is and holds
unfoldable pub content_text : Cell → List ℕ
content_text c =
    codes ": " ++ type_text c.kind ++ codes " = " ++ value_text c.value ++ codes " count " ++ decimal c.count ++ 10 ∷ []

-- the line of a variable: its number, its name if it has one, and what its cell is and holds
unfoldable pub stored_line : ℕ → Option (List ℕ) → Cell → List ℕ
stored_line number name c = codes "#" ++ decimal number ++ 32 ∷ name_text name ++ content_text c

-- the lines of the cells from the one with this number on
abbrev pub stored_lines : List Named → ℕ → List Cell → List ℕ
stored_lines names number [] = []
stored_lines names number (c ∷ cs) = stored_line number (name_numbered number names) c ++ stored_lines names (number + 1) cs

-- the lines of all variables, and how many there are
unfoldable pub store_text : List Named → List Cell → List ℕ
store_text names cells = stored_lines names 0 cells ++ codes "cells " ++ decimal (length cells) ++ 10 ∷ []

-- `store`: each variable, and how many there are
unfoldable pub store_answer : OpenDesk → List ℕ → List ℕ
store_answer d argument = with_nothing (store_text (known d) (present d)) argument_refused argument

-- ---- history
-- the text of the history: where it begins, and the events so far
abbrev pub events_text : OpenDesk → List ℕ
events_text d = text_of_history (written_start d.desk.table d.desk.checkpoint d.desk.history) d.desk.history

-- `history`: where it begins and the events so far, as docs/HISTORY.md has them
unfoldable pub history_answer : OpenDesk → List ℕ → List ℕ
history_answer d argument = with_nothing (events_text d) argument_refused argument
