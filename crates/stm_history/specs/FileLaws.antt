-- Laws of histories as text. The clauses of the checker fix its answer: bytes are the text of one history at most, and then no
-- fault of them can be reported; otherwise they have one first fault. What is written is taken.
use Rattle.std.specs.Prelude.{◌≡◌, ℕ, List, Option, None, ⊤}
use Rattle.stm_store.specs.declared.cell.Cell.{Cell}
use Rattle.stm_store.specs.Naming.{Named}
use Rattle.stm_store.specs.Tables.{Declared, AreDeclared}
use Rattle.stm_events.specs.declared.event.Event.{Event}
use Rattle.stm_events.specs.SlowDesk.{IsLegalBy, initial_state}
use Rattle.stm_events.specs.States.{IsLegalFrom}
use Rattle.stm_machine.specs.Checkpoints.{CheckpointView}
use Rattle.stm_event_lines.specs.declared.checkpoint.CheckpointHeader.{CheckpointHeader}
use Rattle.stm_event_lines.specs.declared.checkpoint.WaitingBlock.{WaitingBlock}
use Rattle.stm_event_lines.specs.declared.read.Header.{Header}
use Rattle.stm_event_lines.specs.CheckpointLines.{FitsCheckpointHeader, FitsNamedCell, FitsWaitingBlock, line_of_cell, line_of_checkpoint_header, line_of_waiting}
use Rattle.stm_event_lines.specs.Fits.{FitsHeader, FitsNames, FitsVariable, AreInRange, IsOneLine, BeginsWithBrace}
use Rattle.stm_event_lines.specs.Lines.{IsFormat, rule_of, event_line, header_line, line_of_header, variable_line}
use Rattle.stm_history.specs.declared.fault.HistoryFault.{HistoryFault}
use Rattle.stm_history.specs.declared.fault.HistoryFault.TheVariants.{ReadFault, BadHeader, BadLine, NotLegal, NoMemory}
use Rattle.stm_history.specs.declared.fault.Legal.{Legal}
use Rattle.stm_history_text.specs.HistoryText.{history_text, start_text}
use Rattle.stm_history.specs.Judgement.{FormatFits, IsHistory, IsStart, StartFits, ReportsFault, AreEvents, AreShortLines, numbers_from}
use Rattle.stm_history.specs.Loading.{IsWholeHistory}
use Rattle.stm_history_text.specs.Starts.{Start, first_state, read_back, written_start}

-- different events have different lines
abbrev pub EachLineIsOneEvent : Type 0
EachLineIsOneEvent =
    (names : List Named) (d e : Event) → FitsNames names d → FitsNames names e → event_line d ≡ event_line e → d ≡ e

-- the line of an event is ASCII, without a line feed and without a 0
abbrev pub EventsAreLines : Type 0
EventsAreLines = (names : List Named) (e : Event) → FitsNames names e → IsOneLine (event_line e)

-- the lines of a checkpoint are ASCII, without a line feed and without a 0
pub record CheckpointsAreLines : Type 0 where
  pub headers : (h : CheckpointHeader) → FitsCheckpointHeader h → IsOneLine (line_of_checkpoint_header h)
  pub cells : (c : Option (List ℕ) × Cell) → FitsNamedCell c → IsOneLine (line_of_cell c)
  pub blocks : (names : List Named) (w : WaitingBlock) → FitsWaitingBlock names w → IsOneLine (line_of_waiting w)

-- each line of a history begins with `{`
abbrev pub LinesBeginWithBraces : Type 0
LinesBeginWithBraces =
    ((format n : ℕ) → BeginsWithBrace (header_line format n)) × ((d : Declared) → BeginsWithBrace (variable_line d))
    × ((e : Event) → BeginsWithBrace (event_line e))

-- and so does each line of a checkpoint
abbrev pub CheckpointsBeginWithBraces : Type 0
CheckpointsBeginWithBraces =
    ((h : CheckpointHeader) → BeginsWithBrace (line_of_checkpoint_header h))
    × ((c : Option (List ℕ) × Cell) → BeginsWithBrace (line_of_cell c))
    × ((w : WaitingBlock) → BeginsWithBrace (line_of_waiting w))

-- The lines of a history, each without its line feed.
pub record LinesAreFixed : Type 0 where
  -- different events have different lines
  pub one : EachLineIsOneEvent
  -- the line of an event is ASCII without a control character
  pub lines : EventsAreLines
  -- and so are the first line of a history over a table, and the lines of its variables
  pub headers : (h : Header) → FitsHeader h → IsOneLine (line_of_header h)
  pub variables : (d : Declared) → FitsVariable d → IsOneLine (variable_line d)
  -- and the lines of a checkpoint
  pub checkpoints : CheckpointsAreLines
  -- each line begins with `{`
  pub braces : LinesBeginWithBraces
  pub checkpoint_braces : CheckpointsBeginWithBraces

-- the numbers of a history are fixed by its text
abbrev pub NumbersAreFixed : Type 0
NumbersAreFixed = (bytes : List ℕ) (m n : Legal) → IsHistory bytes m → IsHistory bytes n → m ≡ n

-- No two histories have one text, be they legal or not: neither two over tables, nor two from checkpoints, nor one of each; and no
-- history has one text in two formats. Each start can be read, and each event fits the names so far and its format and has a short line.
abbrev pub TextsAreOfOneHistory : Type 0
TextsAreOfOneHistory =
    (s s' : Start) (history history' : List Event) → IsStart s → IsStart s'
    → AreEvents s.format (first_state s) history → AreEvents s'.format (first_state s') history'
    → history_text s history ≡ history_text s' history'
    → (s ≡ s') × (history ≡ history')

-- the fault is one of the bytes, and not of the reader or of memory
abbrev pub IsOfBytes : HistoryFault → Type 0
IsOfBytes ReadFault = ⊥
IsOfBytes BadHeader = ⊤
IsOfBytes (BadLine n) = ⊤
IsOfBytes (NotLegal n) = ⊤
IsOfBytes NoMemory = ⊥

-- no fault of the bytes can be reported of the text of a legal history
abbrev pub HistoriesAreTaken : Type 0
HistoriesAreTaken = (bytes : List ℕ) (n : Legal) (f : HistoryFault) → IsHistory bytes n → IsOfBytes f → ReportsFault f bytes → ⊥

-- the first fault is fixed: two faults that are reported of the same bytes are equal
abbrev pub FaultsAreFixed : Type 0
FaultsAreFixed =
    (bytes : List ℕ) (f g : HistoryFault) → IsOfBytes f → IsOfBytes g → ReportsFault f bytes → ReportsFault g bytes → f ≡ g

-- a history in this format that begins with this table
abbrev pub table_start_in : ℕ → List Declared → Start
table_start_in format table = record { format = format; table = table; checkpoint = None }

-- A history over a table can be written in the format, and read again.
pub record CanBeWritten (format : ℕ) (table : List Declared) (history : List Event) : Type 0 where
  -- the format is one that is read, of histories over tables
  pub read : IsFormat format
  -- the table is one that declarations make
  pub declared : AreDeclared table
  -- its values are in the range of the program's types
  pub in_range : AreInRange table
  -- each event fits the names so far and the format, and its line is short
  pub events : AreEvents format (initial_state (rule_of format) table) history
  -- the history is legal by the rule of the format
  pub legal : IsLegalBy (rule_of format) table history

-- the text of such a history is one of its numbers
abbrev pub WhatIsWrittenIsTaken : Type 0
WhatIsWrittenIsTaken =
    (format : ℕ) (table : List Declared) (history : List Event) → CanBeWritten format table history
    → IsHistory (history_text (table_start_in format table) history) (numbers_from (table_start_in format table) history)

-- The text of a legal history, in a format in which it may be written, is read as that history. With a checkpoint the table isn't
-- written, since the names are the checkpoint's, and an empty one is read; the history is the same one, and from the same state.
abbrev pub WhatIsKeptIsTaken : Type 0
WhatIsKeptIsTaken =
    (s : Start) (history : List Event) → FormatFits s.format s.checkpoint → StartFits s → AreShortLines (start_text s)
    → AreEvents s.format (first_state s) history → IsLegalFrom (first_state s) history
    → IsWholeHistory (read_back s) (history_text s history) history

-- the format in which a history is written is one in which it may be
abbrev pub WrittenFormatsFit : Type 0
WrittenFormatsFit =
    (table : List Declared) (checkpoint : Option CheckpointView) (history : List Event)
    → FormatFits (written_start table checkpoint history).format checkpoint
