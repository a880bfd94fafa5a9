-- What is loaded of bytes, or reported of them: the one history in a format that is written whose text they are.
use Rattle.std.specs.Prelude.{◌≢◌, ℕ, List, [], Option, None, Result, Ok, Err, IfSome}
use Rattle.stm_store.specs.Tables.{Declared}
use Rattle.stm_events.specs.declared.event.Event.{Event}
use Rattle.stm_events.specs.Laws.{SubmittedAreWellTyped}
use Rattle.stm_events.specs.SlowDesk.{state_from}
use Rattle.stm_events.specs.States.{IsLegalFrom}
use Rattle.stm_machine.specs.Checkpoints.{MayStart, start_of}
use Rattle.stm_machine.specs.Machine.{IsAt}
use Rattle.stm_event_lines.specs.Lines.{IsFormat, declaring_format, table_format}
use Rattle.stm_history.specs.declared.loading.LoadFault.{LoadFault}
use Rattle.stm_history.specs.declared.loading.LoadFault.TheVariants.{Fault, OldFormat}
use Rattle.stm_history.specs.declared.loading.Loaded.{Loaded}
use Rattle.stm_history.specs.Judgement.{BeginsWithHistory, ReportsFault}
use Rattle.stm_history_text.specs.Starts.{BlocksAreOfText, GoesByPresentRule, Start}

-- the bytes are the text of this legal history, and nothing else
abbrev pub IsWholeHistory : Start → List ℕ → List Event → Type 0
IsWholeHistory start bytes history = BeginsWithHistory start bytes history []

-- where a loaded history begins
abbrev pub loaded_start : Loaded → Start
loaded_start h = record { format = h.format; table = h.table; checkpoint = h.checkpoint }

-- what is reported of bytes that are no legal history in a format that is written: the first error, or that their format is an
-- earlier one
abbrev pub ReportsLoadFault : LoadFault → List ℕ → Type 0
ReportsLoadFault (Fault f) bytes = ReportsFault f bytes
ReportsLoadFault (OldFormat format) bytes =
    IsFormat format × (format ≢ table_format) × (format ≢ declaring_format) × (table : List Declared) × (history : List Event)
    × IsWholeHistory (record { format = format; table = table; checkpoint = None }) bytes history

-- the history is legal, and can be written: some text is its text
abbrev pub HasText : Start → List Event → Type 0
HasText start history = (text : List ℕ) × IsWholeHistory start text history

-- A desk can go on from what was loaded.
pub record IsResumable (h : Loaded) : Type 0 where
  -- a history may begin with its table, or from its checkpoint
  pub start : MayStart h.table h.checkpoint
  -- its events are legal from there
  pub legal : IsLegalFrom (start_of h.table h.checkpoint) h.events.items
  -- the machine is at the state that they lead to
  pub machine : IsAt h.machine (state_from (start_of h.table h.checkpoint) h.events.items)
  -- some text is its text
  pub text : HasText (loaded_start h) h.events.items
  -- each block that is submitted in it is well typed
  pub typed : SubmittedAreWellTyped h.events.items

-- What holds of a loaded history, whatever the reader was.
pub record IsLoadedHistory (h : Loaded) : Type 0 where
  -- a desk can go on from it
  pub resumable : IsResumable h
  -- its format goes by the present rule: it is 3 or 5 without a checkpoint
  pub latest : GoesByPresentRule h.format h.checkpoint
  -- each waiting block of the checkpoint is that of its text
  pub blocks : IfSome h.checkpoint BlocksAreOfText

-- What is loaded of bytes, if they are known, by the result: they are the text of the history; otherwise their first error is reported, or
-- their format, unless the reader failed or memory ran out.
abbrev pub LoadsAs : Option (List ℕ) → Result Loaded LoadFault → Type 0
LoadsAs bytes (Ok h) = IsLoadedHistory h × IfSome bytes (λ all. IsWholeHistory (loaded_start h) all h.events.items)
LoadsAs bytes (Err e) = IfSome bytes (λ all. ReportsLoadFault e all)
