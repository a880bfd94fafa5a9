-- The lines of a history that begins from a checkpoint, before its events, without their line feeds: the first line, a line for
-- each variable of the store, and one for each waiting block.
use Rattle.std.specs.Prelude.{⊤, ◌≡◌, ◌⊎◌, ℕ, ◌^◌, ◌<◌, ◌≤◌, List, [], ◌∷◌, map, Option, Some, None, Ok, IsTrue, codes, option_map}
use Rattle.std.specs.Option.{option_copied}
use Rattle.serde_json.specs.Data.{Data, Members, null, boolean, string, array, object, member, no_members}
use Rattle.serde_json.specs.View.{items_of}
use Rattle.serde_json.specs.Written.{compact_text}
use Rattle.stm_terms.specs.Limits.{most_refs}
use Rattle.stm_terms.specs.Texts.{type_text}
use Rattle.stm_terms.specs.Names.{is_name_text}
use Rattle.stm_store.specs.declared.cell.Cell.{Cell}
use Rattle.stm_store.specs.Naming.{Named}
use Rattle.stm_check.specs.TypedBlock.{Block}
use Rattle.stm_events.specs.Delivered.{Delivered}
use Rattle.stm_events.specs.declared.kept_cause.KeptCause.{KeptCause}
use Rattle.stm_events.specs.Labels.{is_label}
use Rattle.stm_event_lines.specs.declared.checkpoint.CheckpointHeader.{CheckpointHeader}
use Rattle.stm_event_lines.specs.declared.checkpoint.DeliveredParts.{DeliveredParts}
use Rattle.stm_event_lines.specs.declared.checkpoint.WaitingBlock.{WaitingBlock}
use Rattle.stm_event_lines.specs.declared.checkpoint.WaitingLine.{WaitingLine}
use Rattle.stm_event_lines.specs.Fits.{Is32Bit, FitsValue, FitsVerdict, FitWrites}
use Rattle.stm_event_lines.specs.Lines.{declaring_format, number_data, value_data, write_data, verdict_data}
use Rattle.stm_source.specs.CompiledBlock.{compiled_block}

-- the format of histories that begin from a checkpoint, if no variable is declared late, none was before the checkpoint, no block is
-- labelled, and of no block in the checkpoint it is known why it is stale
abbrev pub checkpoint_format : ℕ
checkpoint_format = 4

-- the formats of histories that begin from a checkpoint
abbrev pub IsCheckpointFormat : ℕ → Type 0
IsCheckpointFormat format = (format ≡ checkpoint_format) ⊎ (format ≡ declaring_format)

-- ---- the first line
-- in JSON: the format, the next ticket, and how many lines of variables and of waiting blocks follow
abbrev pub checkpoint_header_data : ℕ → ℕ → ℕ → ℕ → Data
checkpoint_header_data format next vars waiting =
    object (member (codes "format") (number_data format)
    (member (codes "next") (number_data next)
    (member (codes "vars") (number_data vars)
    (member (codes "waiting") (number_data waiting) no_members))))

-- the first line: the compact text of that
unfoldable pub checkpoint_header_line : ℕ → ℕ → ℕ → ℕ → List ℕ
checkpoint_header_line format next vars waiting = compact_text (checkpoint_header_data format next vars waiting)

-- the first line that says this
abbrev pub line_of_checkpoint_header : CheckpointHeader → List ℕ
line_of_checkpoint_header h = checkpoint_header_line h.format h.next h.vars h.waiting

-- the format is one of checkpoints, and the other numbers are in range
abbrev pub FitsCheckpointHeader : CheckpointHeader → Type 0
FitsCheckpointHeader h = IsCheckpointFormat h.format × Is32Bit h.next × Is32Bit h.vars × Is32Bit h.waiting

-- ---- a variable
-- a declared variable has a name, and one that a block made has none
abbrev pub name_data : Option (List ℕ) → Data
name_data (Some name) = string name
name_data None = null

-- in JSON: how many finished blocks changed it, its present value, its name, and its type's text
abbrev pub cell_data : Option (List ℕ) → Cell → Data
cell_data name c =
    object (member (codes "count") (number_data c.count)
    (member (codes "init") (value_data c.value)
    (member (codes "name") (name_data name)
    (member (codes "type") (string (type_text c.kind)) no_members))))

-- the line of a variable
unfoldable pub cell_line : Option (List ℕ) → Cell → List ℕ
cell_line name c = compact_text (cell_data name c)

-- the name is one, if there is one
abbrev pub FitsName : Option (List ℕ) → Type 0
FitsName None = ⊤
FitsName (Some name) = IsTrue (is_name_text name)

-- a variable by itself, whatever stands before it
abbrev pub FitsCell : Option (List ℕ) → Cell → Type 0
FitsCell name c = FitsName name × (c.kind.refs ≤ most_refs) × FitsValue c.value × (c.count < 2 ^ 64)

-- the line of a variable with its name, if it has one
abbrev pub line_of_cell : Option (List ℕ) × Cell → List ℕ
line_of_cell c = cell_line c.0 c.1

-- a variable with its name, if it has one, can be in a line
abbrev pub FitsNamedCell : Option (List ℕ) × Cell → Type 0
FitsNamedCell c = FitsCell c.0 c.1

-- ---- a waiting block
-- the label before other members, unless it is empty
abbrev pub label_before : List ℕ → Members → Members
label_before [] more = more
label_before (b ∷ bs) more = member (codes "label") (string (b ∷ bs)) more

-- why the block is stale before other members, if that is known: the finish, and what it left of what the block had read
abbrev pub cause_before : Option KeptCause → Members → Members
cause_before None more = more
cause_before (Some c) more =
    member (codes "cause") (number_data c.finish)
    (member (codes "changed") (array (items_of (map write_data c.left))) more)

-- what the last delivery brought, if there was one, with the ticket among it
abbrev pub delivery_members : ℕ → Option Delivered → Members
delivery_members ticket None = member (codes "ticket") (number_data ticket) no_members
delivery_members ticket (Some d) =
    member (codes "reads") (array (items_of (map write_data d.reads)))
    (member (codes "stale") (boolean d.stale)
    (member (codes "ticket") (number_data ticket)
    (member (codes "verdict") (verdict_data d.verdict) no_members)))

-- all members but the text, which is the first
abbrev pub members_after_text : ℕ → Option KeptCause → List ℕ → Option Delivered → Members
members_after_text ticket cause label delivery = cause_before cause (label_before label (delivery_members ticket delivery))

-- in JSON: a new one has its text and its ticket, and its label if it has one; one to which something was delivered has what it read,
-- whether it is stale, and the verdict besides; and one of which it is known why it is stale has the cause
abbrev pub waiting_data : ℕ → List ℕ → Option KeptCause → List ℕ → Option Delivered → Data
waiting_data ticket text cause label delivery =
    object (member (codes "block") (string text) (members_after_text ticket cause label delivery))

-- the line of a waiting block, by its parts
unfoldable pub waiting_line : ℕ → List ℕ → Option KeptCause → List ℕ → Option Delivered → List ℕ
waiting_line ticket text cause label delivery = compact_text (waiting_data ticket text cause label delivery)

-- what these parts say that a delivery brought
abbrev pub parts_delivered : DeliveredParts → Delivered
parts_delivered p = record { reads = p.reads.now; verdict = p.verdict.now; stale = p.stale }

-- in JSON: what a writer is given
abbrev pub given_data : WaitingLine → Data
given_data l = waiting_data l.ticket l.text.now (option_copied l.cause) l.label.now (option_map parts_delivered l.delivery)

-- the line of what a writer is given
abbrev pub given_line : WaitingLine → List ℕ
given_line l = waiting_line l.ticket l.text.now (option_copied l.cause) l.label.now (option_map parts_delivered l.delivery)

-- the line of a waiting block that was read
abbrev pub line_of_waiting : WaitingBlock → List ℕ
line_of_waiting w = waiting_line w.ticket w.block.text w.cause w.label w.delivery

-- all numbers and values of the cause are in range
abbrev pub FitsCause : Option KeptCause → Type 0
FitsCause None = ⊤
FitsCause (Some c) = Is32Bit c.finish × FitWrites c.left

-- all numbers and values of the delivery are in range
abbrev pub FitsDelivery : Option Delivered → Type 0
FitsDelivery None = ⊤
FitsDelivery (Some d) = FitWrites d.reads × FitsVerdict d.verdict

-- the waiting block can stand in a line over the names: its numbers are in range, it is what its text checks to, and its label is one
abbrev pub FitsWaiting : List Named → ℕ → Block → Option KeptCause → List ℕ → Option Delivered → Type 0
FitsWaiting known ticket block cause label delivery =
    Is32Bit ticket
    × (compiled_block known block.text ≡ Ok block)
    × FitsCause cause
    × FitsDelivery delivery
    × IsTrue (is_label label)

-- a waiting block that was read can be in a line over the names
abbrev pub FitsWaitingBlock : List Named → WaitingBlock → Type 0
FitsWaitingBlock known w = FitsWaiting known w.ticket w.block w.cause w.label w.delivery
