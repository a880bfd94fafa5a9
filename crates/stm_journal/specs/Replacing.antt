-- A file that takes the place of another: what a call that puts it there leaves, by its result.
use Rattle.std.specs.Prelude.{◌≡◌, ◌⊎◌, ⊤, List, [], ℕ, IsTrue, Some, None, Result, Ok, Err}
use Rattle.stm_journal.specs.Device.{Elapses}
use Rattle.stm_journal.specs.Disk.{Disk, OnDisk, Shows, IsSettled, IsOneOf, CrashLeaves}
use Rattle.stm_journal.specs.Journal.{IsAtRest}
use Rattle.stm_journal.specs.NewFile.{written_to}
use Rattle.stm_journal.specs.declared.device.Device.{Ghosts}
use Rattle.stm_journal.specs.declared.error.JournalError.{JournalError}
use Rattle.stm_journal.specs.declared.journal.Journal.{Journal}
use Rattle.stm_journal.specs.declared.new_file.NewFile.{NewFile}
use Rattle.stm_journal.specs.declared.replace.ReplaceError.{ReplaceError}
use Rattle.stm_journal.specs.declared.replace.ReplaceError.TheVariants.{Refused, Unfinished}

-- time goes on in the call, and a crash in it leaves these files
abbrev pub ElapsesIn : {D : Type 0} → Disk D → D → D → (List ℕ → Type 0) → Type 0
ElapsesIn disk old new P = Elapses (disk.moment old) (disk.moment new) (disk.left_since old) (disk.left_since new) P

-- The other file has taken the place of the old one.
pub record HasReplaced {D : Type 0} (disk : Disk D) (old other new : D) : Type 0 where
  -- reads return the other file
  pub seen : disk.seen new ≡ disk.seen other
  -- from now on a crash leaves it, and nothing else
  pub on_disk : OnDisk disk new
  -- a crash in the call left what it might have left before, or all of the other file
  pub time : ElapsesIn disk old new (λ c. c ≡ disk.seen other)

-- Nothing has changed.
pub record IsAsBefore {D : Type 0} (disk : Disk D) (old new : D) : Type 0 where
  -- reads return the old file
  pub seen : disk.seen new ≡ disk.seen old
  -- no sync has failed meanwhile
  pub settled : IsTrue (disk.is_settled old) → IsTrue (disk.is_settled new)
  -- a crash leaves nothing that it might not have left before
  pub leaves : (c : List ℕ) → disk.may_leave new c → disk.may_leave old c
  -- a crash in the call left nothing else either
  pub time : ElapsesIn disk old new (λ c. ⊥)

-- nothing has changed, if the device is honest
abbrev pub StaysAsBefore : {D : Type 0} → Disk D → D → D → Type 0
StaysAsBefore disk old new = IsTrue disk.is_honest → IsAsBefore disk old new

-- A new file: it has no bytes, and no sync of it has failed.
pub record IsEmptyFile {D : Type 0} (disk : Disk D) (file : D) : Type 0 where
  pub empty : Shows disk file []
  pub settled : IsSettled disk file

-- It is the old file or the other one.
pub record IsOldOrOther {D : Type 0} (disk : Disk D) (old other new : D) : Type 0 where
  -- reads return the one or the other
  pub seen : (disk.seen new ≡ disk.seen old) ⊎ (disk.seen new ≡ disk.seen other)
  -- no sync has failed meanwhile
  pub settled : IsTrue (disk.is_settled old) → IsTrue (disk.is_settled new)
  -- a crash leaves what it might have left before, or all of the other file
  pub leaves : (c : List ℕ) → disk.may_leave new c → disk.may_leave old c ⊎ (c ≡ disk.seen other)
  -- so did a crash in the call
  pub time : ElapsesIn disk old new (λ c. c ≡ disk.seen other)

-- what the call leaves, by its result
abbrev pub LeavesByResult : {D T : Type 0} → Disk D → D → D → D → Result T ReplaceError → Type 0
-- the other file has taken the place of the old one
LeavesByResult disk old other new (Ok x) = HasReplaced disk old other new
-- nothing has changed
LeavesByResult disk old other new (Err (Refused e)) = IsAsBefore disk old new
-- it is the old file or the other one
LeavesByResult disk old other new (Err (Unfinished e)) = IsOldOrOther disk old other new

-- what the call leaves, if the device is honest
abbrev pub PutsOrKeeps : {D T : Type 0} → Disk D → D → D → D → Result T ReplaceError → Type 0
PutsOrKeeps disk old other new result = IsTrue disk.is_honest → LeavesByResult disk old other new result

-- what a crash leaves while another file takes the place of an old one: what it might have left before, or all of the other file
abbrev pub MayBeOther : {D : Type 0} → Disk D → D → D → List ℕ → Type 0
MayBeOther disk old other c = disk.may_leave old c ⊎ (c ≡ disk.seen other)

-- ---- a journal whose file another one replaces

-- The journal goes on in the other file.
pub record GoesOnIn {D : Type 0} (disk : Disk D) (other : D) (new : Journal D) : Type 0 where
  -- reads return the other file
  pub seen : Shows disk new.device (disk.seen other)
  -- more can be added to it
  pub at_rest : IsAtRest disk new

-- The journal stays in the file that it has.
pub record StaysIn {D : Type 0} (disk : Disk D) (old new : Journal D) : Type 0 where
  -- reads return the same file
  pub seen : Shows disk new.device (disk.seen old.device)
  -- more can be added to it, if it could be before
  pub at_rest : IsAtRest disk old → IsAtRest disk new
  -- a crash at any moment of the call left what it might have left before
  pub any_moment : CrashLeaves disk old.device new.device (disk.may_leave old.device)

-- what the journal has after the call, by its result
abbrev pub ReplacesAs : {D : Type 0} → Disk D → Journal D → D → Journal D → Result (Unit {0}) ReplaceError → Type 0
ReplacesAs disk old other new (Ok done) = GoesOnIn disk other new
ReplacesAs disk old other new (Err (Refused e)) = StaysIn disk old new
-- it is the old file or the other one
ReplacesAs disk old other new (Err (Unfinished e)) = IsOneOf disk old.device other new.device

-- A new file has no bytes yet, and no write of it has failed.
pub record IsNewFile {D : Type 0} {device : Ghosts D} (file : NewFile D device) : Type 0 where
  pub empty : IsTrue device.disk.is_honest → written_to file ≡ Some []
  pub fault : file.fault ≡ None

-- ---- errors

-- the error of the journal that it has
abbrev pub error_within : ReplaceError → JournalError
error_within (Refused e) = e
error_within (Unfinished e) = e

-- a result with this error
abbrev pub journal_result : {T : Type 0} → Result T ReplaceError → Result T JournalError
journal_result (Ok x) = Ok x
journal_result (Err e) = Err (error_within e)

-- after a refusal
abbrev pub OnRefused : {T : Type 0} → Result T ReplaceError → Type 0 → Type 0
OnRefused (Ok x) P = ⊤
OnRefused (Err (Refused e)) P = P
OnRefused (Err (Unfinished e)) P = ⊤
