-- `label`, `block` and `board`: what waiting blocks are called, their texts, and all of them at once.
use Rattle.std.specs.Prelude.{ℕ, ◌||◌, nat_eq, if◌then◌else◌, List, [], ◌∷◌, ◌++◌, Option, Some, None, codes, decimal, length, ◌==◌}
use Rattle.std.proofs.Math.Utf8.{encode}
use Rattle.std.specs.Str.{chars}
use Rattle.stm_check.specs.TypedBlock.{Block}
use Rattle.stm_event_lines.specs.CheckpointFields.{label_in}
use Rattle.stm_store.specs.declared.cell.Cell.{Cell}
use Rattle.stm_events.specs.declared.errors.LabelError.{LabelError}
use Rattle.stm_events.specs.declared.event.What.TheVariants.{Labelled}
use Rattle.stm_events.specs.Labels.{Labels, label_of}
use Rattle.stm_events.specs.SlowDesk.{Waiter, standing}
use Rattle.stm_machine.specs.JobsHandedOut.{block_at}
use Rattle.stm_desk.specs.DeskView.{DeskView, state_of, labels_of, with_event}
use Rattle.stm_desk.specs.Refusals.{label_refusal}
use Rattle.stm_lines.specs.LineClass.{argument_of, word_of}
use Rattle.stm_lines.specs.NumberArgument.{number_argument}
use Rattle.stm_commands.specs.Arguments.{with_number, with_nothing, argument_refused}
use Rattle.stm_commands.specs.Contents.{standing_text}
use Rattle.stm_commands.specs.OpenDesk.{OpenDesk, on_desk}
use Rattle.stm_commands.specs.Refusals.{refused, label_error_text}

-- how a label is printed: none is `-`
abbrev pub label_text : List ℕ → List ℕ
label_text label = if length label == 0 then codes "-" else label

-- ---- label
-- the line with the label of a block
unfoldable pub labelled_line : ℕ → List ℕ → List ℕ
labelled_line t label = codes "labelled " ++ decimal t ++ 32 ∷ label_text label ++ 10 ∷ []

-- the first word of a text, which nothing follows, if it is a label; the empty one if there is no word
unfoldable pub label_argument : List ℕ → Option (List ℕ)
label_argument text =
    if length (argument_of text) == 0 then label_in (word_of text) else None

-- a ticket and a label
abbrev pub ticket_and_label : Option ℕ → Option (List ℕ) → Option (ℕ × List ℕ)
ticket_and_label (Some t) (Some label) = Some (t, label)
ticket_and_label (Some t) None = None
ticket_and_label None label = None

-- the ticket and the label of an argument: its first word, and the rest
unfoldable pub labelling : List ℕ → Option (ℕ × List ℕ)
labelling text =
    ticket_and_label (number_argument (word_of text)) (label_argument (argument_of text))

-- `label` of a ticket, which is done or refused for this reason
abbrev pub label_ticket_step : DeskView → ℕ → List ℕ → Option LabelError → DeskView × List ℕ
label_ticket_step d t label None = (with_event d 0 (Labelled t label), labelled_line t label)
label_ticket_step d t label (Some e) = (d, label_error_text e)

-- `label` of a ticket and its label, or that the argument isn't these
abbrev pub labelling_step : OpenDesk → Option (ℕ × List ℕ) → OpenDesk × List ℕ
labelling_step d (Some l) = on_desk d (label_ticket_step d.desk l.0 l.1 (label_refusal d.desk l.0))
labelling_step d None = (d, argument_refused)

-- `label`: a block gets a label, in place of the one that it had; without one it has none any more
unfoldable pub label_step : OpenDesk → List ℕ → OpenDesk × List ℕ
label_step d argument = labelling_step d (labelling argument)

-- ---- block
-- the bytes of these characters, of which each that ends a line becomes a space
abbrev pub unbroken : List ℕ → List ℕ
unbroken [] = []
unbroken (c ∷ cs) = encode (if nat_eq c 10 || nat_eq c 13 then 32 else c) ++ unbroken cs

-- a text on one line
abbrev pub on_one_line : List ℕ → List ℕ
on_one_line text = unbroken (chars text)

-- the text of the block under a ticket, or that no block waits there
unfoldable pub block_text_line : ℕ → Option Block → List ℕ
block_text_line t (Some b) = codes "block " ++ decimal t ++ 32 ∷ on_one_line b.text ++ 10 ∷ []
block_text_line t None = refused (codes "NoTicket")

-- `block`: the text of a block, on one line
unfoldable pub block_answer : OpenDesk → List ℕ → List ℕ
block_answer d argument = with_number (λ t. block_text_line t (block_at (state_of d.desk) t)) argument_refused (number_argument argument)

-- ---- board
-- the line of a block: how it waits on the present store, and its label
unfoldable pub board_line : Labels → List Cell → Waiter → List ℕ
board_line labels store w =
    decimal w.ticket ++ standing_text (standing store w) ++ 32 ∷ label_text (label_of w.ticket labels) ++ 10 ∷ []

-- the lines of these blocks
abbrev pub board_lines : Labels → List Cell → List Waiter → List ℕ
board_lines labels store [] = []
board_lines labels store (w ∷ ws) = board_line labels store w ++ board_lines labels store ws

-- all waiting blocks, and how many wait
unfoldable pub board_text : DeskView → List ℕ
board_text d =
    board_lines (labels_of d) (state_of d).store (state_of d).waiters
    ++ codes "waiting " ++ decimal (length (state_of d).waiters) ++ 10 ∷ []

-- `board`: how each waiting block stands, as `show` prints it, and its label, in ascending order of the tickets
unfoldable pub board_answer : OpenDesk → List ℕ → List ℕ
board_answer d argument = with_nothing (board_text d.desk) argument_refused argument
