-- The file of a run that keeps its history: when it has none to go on from, and which status goes with that.
use Rattle.std.specs.Prelude.{◌≡◌, ℕ, ◌<◌, ◌⊎◌, ⊤, IsTrue, List, Option, IfSome}
use Rattle.stm_history.specs.declared.fault.HistoryFault.TheVariants.{ReadFault, NoMemory as NoMemoryToLoad}
use Rattle.stm_history.specs.declared.loading.LoadFault.{LoadFault}
use Rattle.stm_history.specs.declared.loading.LoadFault.TheVariants.{Fault, OldFormat}
use Rattle.stm_history.specs.FileLaws.{IsOfBytes}
use Rattle.stm_history.specs.Loading.{ReportsLoadFault}
use Rattle.stm_journal.specs.declared.error.JournalError.{JournalError}
use Rattle.stm_journal.specs.declared.error.JournalError.TheVariants.{NoMemory, TornTooLong}
use Rattle.stm_journal.specs.Disk.{Disk}
use Rattle.stm_journal.specs.Journal.{most_batch}
use Rattle.stm_journal.specs.Text.{recovered, dropped_count}
use Rattle.stm_history_file.specs.declared.resuming.OpenFault.{OpenFault}
use Rattle.stm_history_file.specs.declared.resuming.OpenFault.TheVariants.{Journal, History, Foreign}
use Rattle.stm_history_file.specs.Durable.{IsForeign}
use Rattle.stm_console.specs.declared.files.OpenError.{OpenError}
use Rattle.stm_console.specs.declared.files.OpenError.TheVariants as open_error
use Rattle.stm_console.specs.declared.status.TheConstants.{FAILED, NOT_RIGHT, NO_MEMORY}

-- ---- no history to go on from

-- it is about the bytes, and not about the reader or memory
abbrev pub IsFaultOfBytes : LoadFault → Type 0
IsFaultOfBytes (Fault fault) = IsOfBytes fault
IsFaultOfBytes (OldFormat format) = ⊤

-- The bytes of a file are another file's; or its whole lines are no legal history in the latest format; or more bytes follow them
-- than a crash leaves.
abbrev pub HasNoHistory : List ℕ → Type 0
HasNoHistory bytes = IsForeign bytes
    ⊎ (((fault : LoadFault) × IsFaultOfBytes fault × ReportsLoadFault fault (recovered bytes))
    ⊎ (most_batch < dropped_count bytes))

-- ---- a file that is open
-- if these bytes are known, the disk is honest, and has them of the file
abbrev pub HasBytes : {D : Type 0} → Disk D → Option (List ℕ) → D → Type 0
HasBytes disk known file = IfSome known (λ bytes. IsTrue disk.is_honest × (disk.seen file ≡ bytes))

-- ---- statuses

-- after a file that can't be opened
abbrev pub open_status : OpenError → ℕ
open_status open_error.NoMemory = NO_MEMORY
open_status error = FAILED

-- after one that can't be read or repaired
abbrev pub journal_status : JournalError → ℕ
journal_status NoMemory = NO_MEMORY
journal_status TornTooLong = NOT_RIGHT
journal_status error = FAILED

-- after one whose lines aren't loaded
abbrev pub load_status : LoadFault → ℕ
load_status (Fault ReadFault) = FAILED
load_status (Fault NoMemoryToLoad) = NO_MEMORY
load_status fault = NOT_RIGHT

-- after one that isn't gone on from
abbrev pub unopened_status : OpenFault → ℕ
unopened_status (Journal error) = journal_status error
unopened_status (History fault) = load_status fault
unopened_status Foreign = NOT_RIGHT
