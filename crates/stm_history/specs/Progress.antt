-- How far whole lines of bytes have come, and which line leads on from there.
use Rattle.std.specs.Prelude.{◌≡◌, ◌≢◌, true, ℕ, ◌+◌, ◌≤◌, ◌<◌, nat_lt, if◌then◌else◌, List, [], ◌∷◌, ◌++◌, length, Option, Some, None, ◌⊎◌}
use Rattle.stm_terms.specs.declared.kinds.Ty.{Ty}
use Rattle.stm_store.specs.declared.cell.Cell.{Cell}
use Rattle.stm_store.specs.Cells.{Covers, IsStore, plains}
use Rattle.stm_store.specs.Naming.{AreKnown, MayHaveType, Named, is_gapless, named_uses, number_named}
use Rattle.stm_store.specs.Tables.{Declared}
use Rattle.stm_events.specs.declared.event.Event.{Event}
use Rattle.stm_events.specs.SlowDesk.{max_cells}
use Rattle.stm_terms.specs.Limits.{max_waiting}
use Rattle.stm_events.specs.States.{IsLegalFrom}
use Rattle.stm_machine.specs.declared.checkpoint.CheckpointBlock.{CheckpointBlock}
use Rattle.stm_machine.specs.Checkpoints.{CheckpointView, MayAdd, max_next}
use Rattle.stm_event_lines.specs.CheckpointLines.{FitsCell, FitsWaiting, IsCheckpointFormat, cell_line, checkpoint_format, checkpoint_header_line}
use Rattle.stm_event_lines.specs.Fits.{FitsNames, FitsFormat}
use Rattle.stm_event_lines.specs.Lines.{IsFormat, event_line, header_line, variable_line}
use Rattle.stm_history.specs.declared.fault.HistoryFault.{HistoryFault}
use Rattle.stm_history.specs.declared.fault.HistoryFault.TheVariants.{BadHeader, BadLine, NotLegal}
use Rattle.stm_history_text.specs.HistoryText.{block_line, cells_text, checkpoint_text, head_text, history_text}
use Rattle.stm_history.specs.Judgement.{IsShort, MayDeclare, AreVariables, AreEvents, FitCells, IsReadable, IsStart, NoEventNext, IsIllegalFrom, next_line}
use Rattle.stm_history_text.specs.Starts.{Start, delivery_of_block, first_state, is_plain_block, names_after}

-- no byte is a line feed
abbrev pub NoFeed : List ℕ → Type 0
NoFeed [] = Unit {0}
NoFeed (x ∷ xs) = (x ≢ 10) × NoFeed xs

-- How far the lines have come: before the first; in a format, among those of the variables, of which this many were announced;
-- in a format, among those of a checkpoint's variables, with the next ticket, with how many variables and waiting blocks were
-- announced, and with the names so far; in a format, among those of its waiting blocks, of which this many were announced; among
-- those of the events.
pub data CheckerState : Type 0 where
  at_header : CheckerState
  at_variables : ℕ → ℕ → List Declared → CheckerState
  at_cells : ℕ → ℕ → ℕ → ℕ → List Named → List Cell → CheckerState
  at_blocks : ℕ → ℕ → CheckpointView → CheckerState
  at_events : Start → List Event → CheckerState

-- ---- the progress with what was read
-- with these variables: more of their lines are to come, or else the lines of the events
abbrev pub with_table : ℕ → ℕ → List Declared → CheckerState
with_table format n table =
    if nat_lt (length table) n
    then at_variables format n table
    else at_events (record { format = format; table = table; checkpoint = None }) []

-- with this checkpoint: more lines of its waiting blocks are to come, or else the lines of the events
abbrev pub with_blocks : ℕ → ℕ → CheckpointView → CheckerState
with_blocks format waiting c =
    if nat_lt (length c.blocks) waiting
    then at_blocks format waiting c
    else at_events (record { format = format; table = []; checkpoint = Some c }) []

-- with these variables of a checkpoint: more of their lines are to come, or else those of the waiting blocks
abbrev pub with_cells : ℕ → ℕ → ℕ → ℕ → List Named → List Cell → CheckerState
with_cells format next vars waiting names cells =
    if nat_lt (length cells) vars
    then at_cells format next vars waiting names cells
    else with_blocks format waiting (record { store = cells; names = names; next = next; blocks = [] })

-- ---- what may come next
-- a checkpoint may have this next ticket and as many variables and waiting blocks
pub record IsCheckpointHead (next m n : ℕ) : Type 0 where
  pub begun : 0 < next
  pub tickets : next ≤ max_next
  pub vars : m ≤ max_cells
  pub waiting : n ≤ max_waiting

-- The variable of this number, of this type, may have the name, if it has one, after variables of a checkpoint with these names: in
-- format 4 each variable before it has a name; no other variable has this one; and a variable of the type may be declared.
abbrev pub MayBeNamed : ℕ → List Named → ℕ → Option (List ℕ) → Ty → Type 0
MayBeNamed format names n None kind = Unit {0}
MayBeNamed format names n (Some name) kind =
    (format ≡ checkpoint_format → length names ≡ n) × (number_named name names ≡ None) × MayHaveType names kind

-- the names with that of the variable of this number, if it has one
abbrev pub with_name_of : List Named → ℕ → Option (List ℕ) → Ty → List Named
with_name_of names n None kind = names
with_name_of names n (Some name) kind = names ++ record { name = name; number = n; kind = kind } ∷ []

-- the variable may come next, in the format; with the last one, which has this number, they are a store
pub record MayTakeCell (format vars : ℕ) (names : List Named) (cells : List Cell) (name : Option (List ℕ)) (c : Cell) : Type 0 where
  pub fits : FitsCell name c
  pub named : MayBeNamed format names (length cells) name c.kind
  pub store : length cells + 1 ≡ vars → IsStore (plains (cells ++ c ∷ []))

-- the waiting block may come next, in the format: in format 4 it has no label, and it isn't known why it is stale
abbrev pub MayTakeBlock : ℕ → CheckpointView → CheckpointBlock → Type 0
MayTakeBlock format c b =
    FitsWaiting c.names b.ticket b.waiting.block b.cause b.label (delivery_of_block b) × MayAdd c b
    × (format ≡ checkpoint_format → is_plain_block b.cause b.label ≡ true)

-- the first line is that of a table in a format
abbrev pub LeadsToVariables : List ℕ → CheckerState → Type 0
LeadsToVariables line q =
    (format : ℕ) × (n : ℕ) × IsFormat format × (header_line format n ≡ line) × (n ≤ max_cells) × (q ≡ with_table format n [])

-- the first line is that of a checkpoint in a format
abbrev pub LeadsToCells : List ℕ → CheckerState → Type 0
LeadsToCells line q =
    (format : ℕ) × (next : ℕ) × (vars : ℕ) × (waiting : ℕ) × IsCheckpointFormat format × IsCheckpointHead next vars waiting
    × (checkpoint_header_line format next vars waiting ≡ line) × (q ≡ with_cells format next vars waiting [] [])

-- the line leads on to this progress
abbrev pub LeadsTo : CheckerState → List ℕ → CheckerState → Type 0
LeadsTo at_header line q = LeadsToVariables line q ⊎ LeadsToCells line q
LeadsTo (at_variables format n table) line q =
    (d : Declared) × (variable_line d ≡ line) × MayDeclare table d × (q ≡ with_table format n (table ++ d ∷ []))
LeadsTo (at_cells format next vars waiting names cells) line q =
    (name : Option (List ℕ)) × (c : Cell) × (cell_line name c ≡ line) × MayTakeCell format vars names cells name c
    × (q ≡ with_cells format next vars waiting (with_name_of names (length cells) name c.kind) (cells ++ c ∷ []))
LeadsTo (at_blocks format waiting c) line q =
    (b : CheckpointBlock) × (block_line b ≡ line) × MayTakeBlock format c b
    × (q ≡ with_blocks format waiting (record c { blocks = c.blocks ++ b ∷ [] }))
LeadsTo (at_events start history) line q =
    (e : Event) × (event_line e ≡ line) × FitsNames (names_after start history) e × FitsFormat start.format e
    × IsLegalFrom (first_state start) (history ++ e ∷ []) × (q ≡ at_events start (history ++ e ∷ []))

-- the fault of a strange line
abbrev pub strange : CheckerState → HistoryFault
strange at_header = BadHeader
strange (at_variables format n table) = BadHeader
strange (at_cells format next vars waiting names cells) = BadHeader
strange (at_blocks format waiting c) = BadHeader
strange (at_events start history) = BadLine (next_line start history)

-- the line is that of an event which can't follow
abbrev pub Forbids : CheckerState → List ℕ → HistoryFault → Type 0
Forbids at_header line f = ⊥
Forbids (at_variables format n table) line f = ⊥
Forbids (at_cells format next vars waiting names cells) line f = ⊥
Forbids (at_blocks format waiting c) line f = ⊥
Forbids (at_events start history) line f =
    (e : Event) × (event_line e ≡ line) × FitsNames (names_after start history) e × FitsFormat start.format e
    × IsIllegalFrom start history e × (f ≡ NotLegal (next_line start history))

-- ---- what was read
-- the first variables of a checkpoint in the format, of which some have these names
pub record AreCells (format : ℕ) (names : List Named) (cells : List Cell) : Type 0 where
  pub known : AreKnown names
  pub named : Covers (plains cells) (named_uses names)
  pub gapless : format ≡ checkpoint_format → is_gapless names ≡ true
  pub fit : FitCells cells

-- the text is whole lines that led to this progress
abbrev pub LinesUpTo : CheckerState → List ℕ → Type 0
LinesUpTo at_header text = text ≡ []
LinesUpTo (at_variables format n table) text =
    IsFormat format × (text ≡ head_text format n table) × AreVariables table × (length table < n) × (n ≤ max_cells)
LinesUpTo (at_cells format next vars waiting names cells) text =
    IsCheckpointHead next vars waiting × (text ≡ cells_text format next vars waiting names cells) × AreCells format names cells
    × (length cells < vars) × IsCheckpointFormat format
LinesUpTo (at_blocks format waiting c) text =
    (text ≡ checkpoint_text format waiting c) × IsReadable format c × (length c.blocks < waiting) × (waiting ≤ max_waiting)
LinesUpTo (at_events start history) text =
    (text ≡ history_text start history) × IsStart start × AreEvents start.format (first_state start) history
    × IsLegalFrom (first_state start) history

-- no short line that leads on comes next
abbrev pub NoLineNext : CheckerState → List ℕ → Type 0
NoLineNext p rest = (line : List ℕ) (q : CheckerState) → LeadsTo p line q → IsShort line → (more : List ℕ) → rest ≢ line ++ 10 ∷ more

-- no line that may stand here comes next
abbrev pub NoNext : CheckerState → List ℕ → Type 0
NoNext at_header rest = NoLineNext at_header rest
NoNext (at_variables format n table) rest = NoLineNext (at_variables format n table) rest
NoNext (at_cells format next vars waiting names cells) rest = NoLineNext (at_cells format next vars waiting names cells) rest
NoNext (at_blocks format waiting c) rest = NoLineNext (at_blocks format waiting c) rest
NoNext (at_events start history) rest = NoEventNext start.format (names_after start history) rest
