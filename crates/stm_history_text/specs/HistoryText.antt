-- The text of a whole history: the first line, a line for each variable, one for each waiting block of a checkpoint, and one for
-- each event.
use Rattle.std.specs.Prelude.{ℕ, ◌+◌, List, [], ◌∷◌, ◌++◌, length, Option, Some, None}
use Rattle.stm_store.specs.declared.cell.Cell.{Cell}
use Rattle.stm_store.specs.Naming.{Named, name_numbered}
use Rattle.stm_store.specs.Tables.{Declared}
use Rattle.stm_events.specs.declared.event.Event.{Event}
use Rattle.stm_machine.specs.declared.checkpoint.CheckpointBlock.{CheckpointBlock}
use Rattle.stm_machine.specs.Checkpoints.{CheckpointView}
use Rattle.stm_event_lines.specs.CheckpointLines.{cell_line, checkpoint_header_line, waiting_line}
use Rattle.stm_event_lines.specs.Lines.{event_line, header_line, variable_line}
use Rattle.stm_history_text.specs.Starts.{Start, delivery_of_block}

-- the lines of declared variables, with their line feeds
abbrev pub variable_lines : List Declared → List ℕ
variable_lines [] = []
variable_lines (d ∷ ds) = variable_line d ++ 10 ∷ variable_lines ds

-- the lines of events, with their line feeds
abbrev pub event_lines : List Event → List ℕ
event_lines [] = []
event_lines (e ∷ es) = event_line e ++ 10 ∷ event_lines es

-- the first line, which announces this many variables, and the lines of those that were read
abbrev pub head_text : ℕ → ℕ → List Declared → List ℕ
head_text format n table = header_line format n ++ 10 ∷ variable_lines table

-- ---- a checkpoint
-- the lines of variables of a store, whose numbers are counted from i, with their line feeds: each has its name, if it has one
abbrev pub cell_lines_from : ℕ → List Named → List Cell → List ℕ
cell_lines_from i names [] = []
cell_lines_from i names (c ∷ cs) = cell_line (name_numbered i names) c ++ 10 ∷ cell_lines_from (i + 1) names cs

-- the lines of all variables of a store
abbrev pub cell_lines : List Named → List Cell → List ℕ
cell_lines names cells = cell_lines_from 0 names cells

-- the line of a waiting block
abbrev pub block_line : CheckpointBlock → List ℕ
block_line b = waiting_line b.ticket b.waiting.block.text b.cause b.label (delivery_of_block b)

-- the lines of waiting blocks, with their line feeds
abbrev pub block_lines : List CheckpointBlock → List ℕ
block_lines [] = []
block_lines (b ∷ bs) = block_line b ++ 10 ∷ block_lines bs

-- the first line, which announces this many variables and waiting blocks, and the lines of the variables that were read
abbrev pub cells_text : ℕ → ℕ → ℕ → ℕ → List Named → List Cell → List ℕ
cells_text format next vars waiting names cells = checkpoint_header_line format next vars waiting ++ 10 ∷ cell_lines names cells

-- the lines of a checkpoint, whose first line announces this many waiting blocks: its variables, and then its waiting blocks
abbrev pub checkpoint_text : ℕ → ℕ → CheckpointView → List ℕ
checkpoint_text format waiting c = cells_text format c.next (length c.store) waiting c.names c.store ++ block_lines c.blocks

-- ---- whole histories
-- the lines before the events, in a format
abbrev pub text_before : ℕ → List Declared → Option CheckpointView → List ℕ
text_before format table None = head_text format (length table) table
text_before format table (Some c) = checkpoint_text format (length c.blocks) c

-- the lines of a start
abbrev pub start_text : Start → List ℕ
start_text s = text_before s.format s.table s.checkpoint

-- a whole history: the lines of its start, and those of the events
abbrev pub history_text : Start → List Event → List ℕ
history_text s history = start_text s ++ event_lines history
