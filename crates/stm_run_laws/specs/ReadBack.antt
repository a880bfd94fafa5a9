-- What `history` prints is read back as the history that the desk has, whatever lines came before: so `check` accepts it. The values of
-- its events and of its checkpoint are in the range of the program's types, since the literals of texts are in that of the language.
use Rattle.std.specs.Prelude.{◌≡◌, ◌≤◌, ℕ, List, [], ◌∷◌, Ok, ⊤}
use Rattle.stm_terms.specs.Limits as limits
use Rattle.stm_store.specs.Naming.{Named}
use Rattle.stm_check.specs.TypedBlock.{Block}
use Rattle.stm_events.specs.declared.event.Event.{Event}
use Rattle.stm_events.specs.SlowDesk as slow
use Rattle.stm_event_lines.specs.Fits.{FitsNames}
use Rattle.stm_history.specs.Judgement.{AreShortLines, FitsBefore}
use Rattle.stm_history.specs.Loading.{IsWholeHistory}
use Rattle.stm_history_text.specs.Starts.{read_back}
use Rattle.stm_source.specs.CompiledBlock.{compiled_block}
use Rattle.stm_desk.specs.DeskView.{start_state}
use Rattle.stm_desk_laws.specs.IntegerRange.{IsAct64Bit}
use Rattle.stm_commands.specs.Contents.{history_answer}
use Rattle.stm_run.specs.declared.console.Console.{Console}
use Rattle.stm_run.specs.AfterLines.{console_reached}
use Rattle.stm_run.specs.ConsoleState.{present_desk, table_of, checkpoint_of_console, events_of, start_of_console}
use Rattle.stm_run.specs.Fitting.{AreVerdictsInRange}

-- ---- values
-- each literal of a block that a text checks to is in the range of the language, whatever names are known
abbrev pub LiteralsAreInRange : Type 0
LiteralsAreInRange =
    (known : List Named) (text : List ℕ) (block : Block) → compiled_block known text ≡ Ok block → IsAct64Bit block.tree

-- whatever lines came before, and however many events the history may have, the values of the events' verdicts are in range
abbrev pub VerdictsFitLines : Type 0
VerdictsFitLines =
    (max_events : ℕ) → max_events ≤ limits.max_events → (before : List (List ℕ))
    → AreVerdictsInRange (events_of (console_reached max_events before))

-- ---- lines
-- each event, from a state on, can be in a line over the names of the state before it
abbrev pub EventsFitNames : slow.Slow → List Event → Type 0
EventsFitNames s [] = ⊤
EventsFitNames s (e ∷ es) = FitsNames s.names e × EventsFitNames (slow.after s e.what) es

-- each event of a console's desk can be in a line of a history
abbrev pub EventsFit : Console → Type 0
EventsFit s = EventsFitNames (start_state (present_desk s).desk) (present_desk s).desk.history

-- what its history begins with can be in lines: the declared variables, or the last checkpoint
abbrev pub BeginningFits : Console → Type 0
BeginningFits s = FitsBefore (table_of s) (checkpoint_of_console s)

-- whatever lines came before, the events can be in lines
abbrev pub EventsFitLines : Type 0
EventsFitLines =
    (max_events : ℕ) → max_events ≤ limits.max_events → (before : List (List ℕ)) → EventsFit (console_reached max_events before)

-- so can what the history begins with
abbrev pub StartsFitLines : Type 0
StartsFitLines =
    (max_events : ℕ) → max_events ≤ limits.max_events → (before : List (List ℕ)) → BeginningFits (console_reached max_events before)

-- ---- the text
-- what `history` prints, on the open desk of a console
abbrev pub printed_history : Console → List ℕ
printed_history s = history_answer (present_desk s) []

-- it is the text of the console's history, and no other's
abbrev pub IsPrintedWhole : Console → Type 0
IsPrintedWhole s = IsWholeHistory (read_back (start_of_console s)) (printed_history s) (events_of s)

-- so it is whatever lines came before, if no line of it is too long
abbrev pub HistoriesAreReadBack : Type 0
HistoriesAreReadBack =
    (max_events : ℕ) → max_events ≤ limits.max_events → (before : List (List ℕ))
    → AreShortLines (printed_history (console_reached max_events before)) → IsPrintedWhole (console_reached max_events before)
