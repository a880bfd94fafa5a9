-- What a checker of any bytes, or of a list of events, has to report.
use Rattle.std.specs.Prelude.{◌≡◌, ◌≢◌, ℕ, ◌+◌, ◌≤◌, ◌<◌, Bool, true, ◌&&◌, nat_eq, nat_le, if◌then◌else◌, List, [], ◌∷◌, ◌++◌, length, Option, Some, None, Result, Ok, Err, ⊤}
use Rattle.stm_store.specs.declared.cell.Cell.{Cell}
use Rattle.stm_store.specs.Naming.{AreKnown, Named, is_gapless}
use Rattle.stm_store.specs.Tables.{Declared, declare_refusal}
use Rattle.stm_events.specs.declared.event.Event.{Event}
use Rattle.stm_events.specs.SlowDesk.{Slow, after, state, IsLegal, max_cells}
use Rattle.stm_events.specs.States.{IsLegalFrom}
use Rattle.stm_machine.specs.declared.checkpoint.CheckpointBlock.{CheckpointBlock}
use Rattle.stm_machine.specs.Checkpoints.{CheckpointView, IsCheckpoint}
use Rattle.stm_event_lines.specs.CheckpointLines.{FitsCell, FitsWaiting, IsCheckpointFormat, checkpoint_format}
use Rattle.stm_event_lines.specs.Fits.{FitsNames, FitsFormat, FitsVariable}
use Rattle.stm_event_lines.specs.Lines.{IsFormat, event_line}
use Rattle.stm_history.specs.declared.fault.HistoryFault.{HistoryFault}
use Rattle.stm_history.specs.declared.fault.HistoryFault.TheVariants.{ReadFault, BadHeader, BadLine, NotLegal, NoMemory}
use Rattle.stm_history.specs.declared.fault.Legal.{Legal}
use Rattle.stm_history_text.specs.HistoryText.{block_line, history_text, start_text}
use Rattle.stm_history_text.specs.Starts.{Start, are_plain_blocks, delivery_of_block, first_state, names_after, state_after_start}

-- the most bytes of a line, its line feed not counted
abbrev pub max_line : ℕ
max_line = 1048576

-- the line is no longer than one may be
abbrev pub IsShort : List ℕ → Type 0
IsShort line = length line ≤ max_line

-- the variable may be declared after these
pub record MayDeclare (before : List Declared) (d : Declared) : Type 0 where
  pub fits : FitsVariable d
  pub may : declare_refusal before d.name d.kind d.value ≡ None

-- each variable may be declared after those before it
abbrev pub AreVariablesFrom : List Declared → List Declared → Type 0
AreVariablesFrom before [] = ⊤
AreVariablesFrom before (d ∷ ds) = MayDeclare before d × AreVariablesFrom (before ++ d ∷ []) ds

-- the variables may be declared in this order, from an empty table on
abbrev pub AreVariables : List Declared → Type 0
AreVariables table = AreVariablesFrom [] table

-- each event, from a state on, can stand in a line over the names of the state before it and in a history of the format, and its line
-- is short
abbrev pub AreEvents : ℕ → Slow → List Event → Type 0
AreEvents format s [] = ⊤
AreEvents format s (e ∷ es) = FitsNames s.names e × FitsFormat format e × IsShort (event_line e) × AreEvents format (after s e.what) es

-- ---- starts
-- each variable of a store can be in a line
abbrev pub FitCells : List Cell → Type 0
FitCells [] = ⊤
FitCells (c ∷ cs) = FitsCell None c × FitCells cs

-- each waiting block can be in a line over the names
abbrev pub FitBlocks : List Named → List CheckpointBlock → Type 0
FitBlocks names [] = ⊤
FitBlocks names (b ∷ bs) = FitsWaiting names b.ticket b.waiting.block b.cause b.label (delivery_of_block b) × FitBlocks names bs

-- the checkpoint can be written
pub record CheckpointFits (c : CheckpointView) : Type 0 where
  pub checkpoint : IsCheckpoint c
  pub known : AreKnown c.names
  pub cells : FitCells c.store
  pub blocks : FitBlocks c.names c.blocks

-- the table can be written, or the checkpoint, if there is one
abbrev pub FitsBefore : List Declared → Option CheckpointView → Type 0
FitsBefore table None = AreVariables table
FitsBefore table (Some c) = CheckpointFits c

-- the start can be written, if its lines aren't too long
abbrev pub StartFits : Start → Type 0
StartFits s = FitsBefore s.table s.checkpoint

-- the lines of these waiting blocks are short; those of variables always are
abbrev pub HaveShortLines : List CheckpointBlock → Type 0
HaveShortLines [] = ⊤
HaveShortLines (b ∷ bs) = IsShort (block_line b) × HaveShortLines bs

-- A history that begins so may be written in the format: over a table in one of tables, from a checkpoint in one of checkpoints; and in
-- format 4 no name comes after a variable without one, no block has a label, and of none it is known why it is stale.
abbrev pub FormatFits : ℕ → Option CheckpointView → Type 0
FormatFits format None = IsFormat format
FormatFits format (Some c) =
    IsCheckpointFormat format × (format ≡ checkpoint_format → is_gapless c.names ≡ true)
    × (format ≡ checkpoint_format → are_plain_blocks c.blocks ≡ true)

-- the checkpoint can be read in the format
pub record IsReadable (format : ℕ) (c : CheckpointView) : Type 0 where
  pub format_fits : FormatFits format (Some c)
  pub fits : CheckpointFits c
  pub short : HaveShortLines c.blocks

-- the table can be read in the format, or the checkpoint, if there is one: then the table is empty
abbrev pub IsBefore : ℕ → List Declared → Option CheckpointView → Type 0
IsBefore format table None = IsFormat format × (length table ≤ max_cells) × AreVariables table
IsBefore format table (Some c) = (table ≡ []) × IsReadable format c

-- the start is one that can be read
abbrev pub IsStart : Start → Type 0
IsStart s = IsBefore s.format s.table s.checkpoint

-- no line of the text is too long, if this many bytes of its first line came before
abbrev pub are_short_after : ℕ → List ℕ → Bool
are_short_after n [] = nat_le n max_line
are_short_after n (x ∷ xs) = if nat_eq x 10 then nat_le n max_line && are_short_after 0 xs else are_short_after (n + 1) xs

-- no line of the text is too long
abbrev pub AreShortLines : List ℕ → Type 0
AreShortLines text = are_short_after 0 text ≡ true

-- ---- histories
-- the bytes are the text of a history from this start, legal by the rule of its format, and then the rest
pub record BeginsWithHistory (s : Start) (bytes : List ℕ) (history : List Event) (rest : List ℕ) : Type 0 where
  pub text : bytes ≡ history_text s history ++ rest
  pub start : IsStart s
  pub events : AreEvents s.format (first_state s) history
  pub legal : IsLegalFrom (first_state s) history

-- how many lines come before the events
abbrev pub lines_before : List Declared → Option CheckpointView → ℕ
lines_before table None = length table + 1
lines_before table (Some c) = length c.store + length c.blocks + 1

-- the number of the line after these, the first line being number 1
abbrev pub next_line : Start → List Event → ℕ
next_line start history = lines_before start.table start.checkpoint + length history + 1

-- how many events there are, how many blocks wait in the state after them, and how many variables its store has
abbrev pub numbers_at : Slow → List Event → Legal
numbers_at s history = record { events = length history; waiting = length s.waiters; cells = length s.store }

-- the numbers of a history from this start
abbrev pub numbers_from : Start → List Event → Legal
numbers_from start history = numbers_at (state_after_start start history) history

-- the numbers of a history over a table, by the present rule
abbrev pub numbers : List Declared → List Event → Legal
numbers table history = numbers_at (state table history) history

-- the bytes are the text of a legal history with these numbers, in a format that is read
abbrev pub IsHistory : List ℕ → Legal → Type 0
IsHistory bytes n =
    (start : Start) × (history : List Event) × BeginsWithHistory start bytes history [] × (n ≡ numbers_from start history)

-- no line of an event comes next: a line of no event that the format has, a line too long, or the end in mid-line
abbrev pub NoEventNext : ℕ → List Named → List ℕ → Type 0
NoEventNext format names rest =
    (e : Event) → FitsNames names e → FitsFormat format e → IsShort (event_line e) → (more : List ℕ)
    → rest ≢ event_line e ++ 10 ∷ more

-- the event can't follow
abbrev pub IsIllegalFrom : Start → List Event → Event → Type 0
IsIllegalFrom start history e = IsLegalFrom (first_state start) (history ++ e ∷ []) → ⊥

-- the event can't follow in a history over a table, by the present rule
abbrev pub IsIllegal : List Declared → List Event → Event → Type 0
IsIllegal table history e = IsLegal table (history ++ e ∷ []) → ⊥

-- What is reported of bytes that are no legal history: the first fault, as a law says (`FileLaws.FaultsAreFixed`). The header is
-- at fault if the bytes begin with the lines of no start that can be read. A later line is at fault if a legal
-- history precedes it: it is bad if it is not a short line of an event of the format, and not legal if it is the short line of an
-- event that cannot follow. `ReadFault` and `NoMemory` may be reported of any bytes.
abbrev pub ReportsFault : HistoryFault → List ℕ → Type 0
ReportsFault ReadFault bytes = ⊤
ReportsFault NoMemory bytes = ⊤
ReportsFault BadHeader bytes = (start : Start) → IsStart start → (more : List ℕ) → bytes ≢ start_text start ++ more
ReportsFault (BadLine n) bytes =
    (start : Start) × (history : List Event) × (rest : List ℕ)
    × BeginsWithHistory start bytes history rest × (n ≡ next_line start history)
    × (0 < length rest) × NoEventNext start.format (names_after start history) rest
ReportsFault (NotLegal n) bytes =
    (start : Start) × (history : List Event) × (e : Event) × (more : List ℕ)
    × BeginsWithHistory start bytes history (event_line e ++ 10 ∷ more) × (n ≡ next_line start history)
    × FitsNames (names_after start history) e × FitsFormat start.format e × IsShort (event_line e) × IsIllegalFrom start history e

-- What is judged of bytes, by the result: they are the text of a legal history, and the numbers are its own; otherwise their first fault is
-- reported, unless the reader failed or memory ran out.
abbrev pub JudgesHistory : List ℕ → Result Legal HistoryFault → Type 0
JudgesHistory bytes (Ok n) = IsHistory bytes n
JudgesHistory bytes (Err f) = ReportsFault f bytes

-- what replaying reports of a list that isn't legal: the first event, counted from 1, that can't follow those before it; out of memory of any
-- list
abbrev pub IsFirstIllegal : HistoryFault → List Declared → List Event → Type 0
IsFirstIllegal ReadFault table history = ⊥
IsFirstIllegal BadHeader table history = ⊥
IsFirstIllegal (BadLine n) table history = ⊥
IsFirstIllegal NoMemory table history = ⊤
IsFirstIllegal (NotLegal n) table history =
    (front : List Event) × (e : Event) × (more : List Event) × (history ≡ front ++ e ∷ more) × IsLegal table front
    × IsIllegal table front e × (n ≡ length front + 1)

-- What replaying a list of events over a table returns, by the present rule: the list is legal, and the numbers are its own; otherwise the
-- first event that can't follow is reported, unless memory ran out.
abbrev pub ReplaysAs : List Declared → List Event → Result Legal HistoryFault → Type 0
ReplaysAs table history (Ok n) = IsLegal table history × (n ≡ numbers table history)
ReplaysAs table history (Err f) = IsFirstIllegal f table history
