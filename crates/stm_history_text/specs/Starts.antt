-- Where a history begins: with the first values of a table's variables, or from a checkpoint.
use Rattle.std.specs.Prelude.{◌≡◌, ◌⊎◌, ℕ, ⊤, Bool, true, false, not, ◌&&◌, ◌||◌, length, if◌then◌else◌, List, [], ◌∷◌, Option, Some, None, Ok, is_some, option_copied, option_map}
use Rattle.std.specs.Borrow.{Bor}
use Rattle.std.specs.Bool.{◌==◌}
use Rattle.std.specs.List.{list_all, list_any}
use Rattle.stm_store.specs.Naming.{Named, is_gapless}
use Rattle.stm_store.specs.Tables.{Declared}
use Rattle.stm_events.specs.Delivered.{Delivered}
use Rattle.stm_events.specs.declared.kept_cause.KeptCause.{KeptCause}
use Rattle.stm_events.specs.declared.event.Event.{Event}
use Rattle.stm_events.specs.declared.event.What.{What}
use Rattle.stm_events.specs.declared.event.What.TheVariants.{Submitted, Installed, Finished, Cancelled, Declared as DeclaredLate, Labelled}
use Rattle.stm_events.specs.SlowDesk.{Slow, state_from}
use Rattle.stm_machine.specs.declared.checkpoint.CheckpointBlock.{CheckpointBlock}
use Rattle.stm_machine.specs.Checkpoints.{CheckpointView, started_by}
use Rattle.stm_event_lines.specs.CheckpointLines.{checkpoint_format}
use Rattle.stm_event_lines.specs.Lines.{declaring_format, table_format, rule_of}
use Rattle.stm_source.specs.CompiledBlock.{compiled_block}

-- the format of the text, the table of the variables that are declared first, and the checkpoint that the history begins from, if it does
pub record Start : Type 0 where
  pub format : ℕ
  pub table : List Declared
  pub checkpoint : Option CheckpointView

-- where a history in the format begins with this table and, if it does, from a checkpoint that is lent
abbrev pub lent_start : ℕ → List Declared → Option (Bor CheckpointView) → Start
lent_start format table checkpoint = record { format = format; table = table; checkpoint = option_copied checkpoint }

-- the state in which the history begins, by the rule of its format
abbrev pub first_state : Start → Slow
first_state s = started_by (rule_of s.format) s.table s.checkpoint

-- a history goes by the present rule: it is in a format that is written, or begins from a checkpoint
abbrev pub GoesByPresentRule : ℕ → Option CheckpointView → Type 0
GoesByPresentRule format None = (format ≡ table_format) ⊎ (format ≡ declaring_format)
GoesByPresentRule format (Some c) = Unit {0}

-- the state after these events
abbrev pub state_after_start : Start → List Event → Slow
state_after_start s history = state_from (first_state s) history

-- the names of variables after these events
abbrev pub names_after : Start → List Event → List Named
names_after s history = (state_after_start s history).names

-- a variable is declared late
abbrev pub is_declaration : What → Bool
is_declaration (Submitted t block) = false
is_declaration (Installed t v) = false
is_declaration (Finished t v n stale) = false
is_declaration (Cancelled t) = false
is_declaration (DeclaredLate name kind value) = true
is_declaration (Labelled t label) = false

-- a block gets a label
abbrev pub is_labelling : What → Bool
is_labelling (Submitted t block) = false
is_labelling (Installed t v) = false
is_labelling (Finished t v n stale) = false
is_labelling (Cancelled t) = false
is_labelling (DeclaredLate name kind value) = false
is_labelling (Labelled t label) = true

-- some event declares a variable
abbrev pub declares : List Event → Bool
declares history = list_any (λ e. is_declaration e.what) history

-- some event gives a label
abbrev pub labels_blocks : List Event → Bool
labels_blocks history = list_any (λ e. is_labelling e.what) history

-- a waiting block can stand in format 4: it isn't known why it is stale, and it has no label
abbrev pub is_plain_block : Option KeptCause → List ℕ → Bool
is_plain_block cause label = not (is_some cause) && (length label == 0)

-- each of these waiting blocks can stand in format 4
abbrev pub are_plain_blocks : List CheckpointBlock → Bool
are_plain_blocks blocks = list_all (λ b. is_plain_block b.cause b.label) blocks

-- the format of a start whose history declares no variable and labels no block: a checkpoint has its own one, or that of late
-- declarations if a name comes after a variable without one, or if a block has a label, or if it is known why one is stale
abbrev pub format_of_start : Option CheckpointView → ℕ
format_of_start None = table_format
format_of_start (Some c) = if is_gapless c.names && are_plain_blocks c.blocks then checkpoint_format else declaring_format

-- the format in which a history is written
abbrev pub format_for : Option CheckpointView → List Event → ℕ
format_for checkpoint history = if declares history || labels_blocks history then declaring_format else format_of_start checkpoint

-- the start of a history over a table, in the format of tables
abbrev pub table_start : List Declared → Start
table_start table = record { format = table_format; table = table; checkpoint = None }

-- the start of a history as it is written
abbrev pub written_start : List Declared → Option CheckpointView → List Event → Start
written_start table checkpoint history =
    record { format = format_for checkpoint history; table = table; checkpoint = checkpoint }

-- what the last delivery to a waiting block brought, if there was one
abbrev pub delivery_of_block : CheckpointBlock → Option Delivered
delivery_of_block b = option_map (λ h. record { reads = h.reads; verdict = h.verdict; stale = b.stale }) b.waiting.held

-- each of these waiting blocks is what its text checks to over the names
abbrev pub AreOfText : List Named → List CheckpointBlock → Type 0
AreOfText names [] = ⊤
AreOfText names (b ∷ bs) = (compiled_block names b.waiting.block.text ≡ Ok b.waiting.block) × AreOfText names bs

-- each waiting block of a checkpoint is what its text checks to over the checkpoint's names
abbrev pub BlocksAreOfText : CheckpointView → Type 0
BlocksAreOfText c = AreOfText c.names c.blocks

-- the table that reading the text gives: a checkpoint's text has the names of variables and no first values, so its table is empty
abbrev pub table_back : List Declared → Option CheckpointView → List Declared
table_back table None = table
table_back table (Some c) = []

-- the start that reading its text gives
abbrev pub read_back : Start → Start
read_back s = record s { table = table_back s.table s.checkpoint }
