-- What a JSON value stands for among the lines of a checkpoint, as the reader finds it. A line is accepted where what was found has
-- this very line again.
use Rattle.std.specs.Prelude.{ℕ, nat_eq, ◌||◌, List, [], codes, Bool, if◌then◌else◌, Option, Some, None, option_map, option_and_then, is_some}
use Rattle.serde_json.specs.Data.{Data}
use Rattle.serde_json.specs.Find.{get, as_null, as_bool, as_str, as_number, as_u64}
use Rattle.stm_terms.specs.declared.values.Value.{Value}
use Rattle.stm_terms.specs.declared.verdicts.Verdict.{Verdict}
use Rattle.stm_store.specs.declared.cell.Cell.{Cell}
use Rattle.stm_store.specs.Naming.{Named}
use Rattle.stm_events.specs.Delivered.{Delivered}
use Rattle.stm_events.specs.declared.kept_cause.KeptCause.{KeptCause}
use Rattle.stm_events.specs.Labels.{is_label}
use Rattle.stm_event_lines.specs.declared.checkpoint.CheckpointHeader.{CheckpointHeader}
use Rattle.stm_event_lines.specs.declared.checkpoint.WaitingBlock.{WaitingBlock}
use Rattle.stm_event_lines.specs.CheckpointLines.{checkpoint_format}
use Rattle.stm_event_lines.specs.Lines.{declaring_format}
use Rattle.stm_event_lines.specs.Fields.{value_of, write_of, type_in, verdict_field, text_field, number_field, list_field}
use Rattle.stm_source.specs.CompiledBlock.{block_of_text}

-- ---- the first line
-- a first line, whether or not its format is one of checkpoints
abbrev pub checkpoint_header_of : Data → Option CheckpointHeader
checkpoint_header_of d =
    option_and_then (λ format. option_and_then (λ next. option_and_then (λ vars.
    option_map (λ waiting. record { format = format; next = next; vars = vars; waiting = waiting }) (number_field (codes "waiting") d))
    (number_field (codes "vars") d))
    (number_field (codes "next") d))
    (number_field (codes "format") d)

-- whether the format is one of checkpoints
abbrev pub is_checkpoint_format : ℕ → Bool
is_checkpoint_format format = nat_eq format checkpoint_format || nat_eq format declaring_format

-- a first line, if its format is one of checkpoints
abbrev pub checkpoint_header_in : Data → Option CheckpointHeader
checkpoint_header_in d = option_and_then (λ h. if is_checkpoint_format h.format then Some h else None) (checkpoint_header_of d)

-- ---- a variable
-- a natural number under a key
abbrev pub count_field : List ℕ → Data → Option ℕ
count_field key d = option_and_then as_u64 (option_and_then as_number (get key d))

-- a name, or that there is none
abbrev pub name_of : Data → Option (Option (List ℕ))
name_of d = if is_some (as_null d) then Some None else option_map Some (as_str d)

-- a cell of this count and this value, with the type and the name that the value has
abbrev pub counted_cell_of : Data → ℕ → Value → Option (Option (List ℕ) × Cell)
counted_cell_of d count v =
    option_and_then (λ name.
    option_map (λ kind. (name, record { kind = kind; value = v; count = count })) (option_and_then type_in (text_field (codes "type") d)))
    (option_and_then name_of (get (codes "name") d))

-- a variable's cell, with its name if it has one
abbrev pub cell_of : Data → Option (Option (List ℕ) × Cell)
cell_of d =
    option_and_then (λ count. option_and_then (counted_cell_of d count) (option_and_then value_of (get (codes "init") d)))
    (count_field (codes "count") d)

-- ---- a waiting block
-- a truth value under a key
abbrev pub bool_field : List ℕ → Data → Option Bool
bool_field key d = option_and_then as_bool (get key d)

-- what a delivery brought, with this verdict
abbrev pub delivery_in : Data → Verdict → Option Delivered
delivery_in d v =
    option_and_then (λ reads. option_map (λ stale. record { reads = reads; verdict = v; stale = stale }) (bool_field (codes "stale") d))
    (list_field write_of (codes "reads") d)

-- what the last delivery brought; or that there was none, if there is no verdict
abbrev pub delivery_of : Data → Option (Option Delivered)
delivery_of d =
    if is_some (get (codes "verdict") d) then option_map Some (option_and_then (delivery_in d) (verdict_field d)) else Some None

-- the text, if it is a label
abbrev pub label_in : List ℕ → Option (List ℕ)
label_in text = if is_label text then Some text else None

-- the label; the empty one if there is none
abbrev pub label_field : Data → Option (List ℕ)
label_field d = if is_some (get (codes "label") d) then option_and_then label_in (text_field (codes "label") d) else Some []

-- why the block is stale: the finish, and what it left
abbrev pub cause_in : Data → Option KeptCause
cause_in d =
    option_and_then (λ finish. option_map (λ left. record { finish = finish; left = left }) (list_field write_of (codes "changed") d))
    (number_field (codes "cause") d)

-- why the block is stale; or that this isn't known, if there is no finish
abbrev pub cause_field : Data → Option (Option KeptCause)
cause_field d = if is_some (get (codes "cause") d) then option_map Some (cause_in d) else Some None

-- a waiting block over these names
abbrev pub waiting_of : List Named → Data → Option WaitingBlock
waiting_of known d =
    option_and_then (λ ticket. option_and_then (λ block. option_and_then (λ cause. option_and_then (λ label.
    option_map (λ delivery. record { ticket = ticket; block = block; cause = cause; label = label; delivery = delivery }) (delivery_of d))
    (label_field d))
    (cause_field d))
    (option_and_then (block_of_text known) (text_field (codes "block") d)))
    (number_field (codes "ticket") d)
