-- A device in one value: what reads return of it, what a crash may leave, and when. Each word holds if the device is honest.
use Rattle.std.specs.Prelude.{◌≡◌, ◌⊎◌, ⊤, ◌<◌, ◌≤◌, ℕ, Bool, true, false, IsTrue, List, [], length, Result}
use Rattle.stm_journal.specs.declared.error.JournalError.{JournalError}
use Rattle.stm_journal.specs.Device.{Only, ComesFrom, TornAppend, IsInLastSector, Elapses, Own, no_own, HasCause, HasReadCause}

pub record Disk (D : Type 0) : Type 1 where
  -- whether the device does what is said here
  pub is_honest : Bool
  -- whether an append that is cut short leaves each of its bytes as it was to be written, or 0 (`TornAppend`)
  pub fills_with_zeros : Bool
  -- the bytes that reads return
  pub seen : D → List ℕ
  -- the files that a crash at this moment may leave
  pub may_leave : D → List ℕ → Type 0
  -- whether reads return what the next sync brings to the disk. After a sync that failed they may not: the system may have dropped
  -- what it couldn't write, and return it all the same, until the device is settled.
  pub is_settled : D → Bool
  -- the moment, a number that never decreases
  pub moment : D → ℕ
  -- the files that a crash at some moment from that one on might have left, in the middle of a call or between two
  pub left_since : D → ℕ → List ℕ → Type 0
  -- how many calls have failed because of the disk
  pub faults : D → ℕ
  -- whether a read may fail
  pub reads_fail : D → Type 0

-- how the parts of a device go together
pub record IsLawful {D : Type 0} (disk : Disk D) : Type 0 where
  -- a crash may leave the file as it is
  pub may_stay : (file : D) → disk.may_leave file (disk.seen file)
  -- this moment is one of those since an earlier one
  pub counts_now : (file : D) (t : ℕ) (c : List ℕ) → t ≤ disk.moment file → disk.may_leave file c → disk.left_since file t c
  -- since this moment there is no other
  pub only_now : (file : D) (c : List ℕ) → disk.left_since file (disk.moment file) c → disk.may_leave file c

-- a device of which nothing is claimed, as a file of the system: no contract can say what such a file does
abbrev pub claims_nothing : {D : Type 0} → Disk D
claims_nothing = record {
  is_honest = false;
  fills_with_zeros = false;
  seen = λ _. [];
  may_leave = λ _ _. ⊤;
  is_settled = λ _. true;
  moment = λ _. 0;
  left_since = λ _ _ _. ⊤;
  faults = λ _. 0;
  reads_fail = λ _. ⊤;
}

-- its parts go together
abbrev pub lawful_nothing : {D : Type 0} → IsLawful (claims_nothing {D = D})
lawful_nothing = record { may_stay = λ file. tt; counts_now = λ file t c le now. now; only_now = λ file c left. left }

-- ---- a file at a moment

-- reads return these bytes
abbrev pub Shows : {D : Type 0} → Disk D → D → List ℕ → Type 0
Shows disk d bytes = IsTrue disk.is_honest → disk.seen d ≡ bytes

-- the file has this many bytes
abbrev pub HasLength : {D : Type 0} → Disk D → D → ℕ → Type 0
HasLength disk d n = IsTrue disk.is_honest → n ≡ length (disk.seen d)

-- it has at least this many
abbrev pub Reaches : {D : Type 0} → Disk D → D → ℕ → Type 0
Reaches disk d n = IsTrue disk.is_honest → n ≤ length (disk.seen d)

-- no sync of it has failed since it was settled
abbrev pub IsSettled : {D : Type 0} → Disk D → D → Type 0
IsSettled disk d = IsTrue disk.is_honest → IsTrue (disk.is_settled d)

-- it is on the disk: a crash leaves what reads return, and nothing else
pub record OnDisk {D : Type 0} (disk : Disk D) (d : D) : Type 0 where
  pub settled : IsTrue (disk.is_settled d)
  pub only : Only (disk.seen d) (disk.may_leave d)

-- the file is on the disk, if the device is honest
abbrev pub IsOnDisk : {D : Type 0} → Disk D → D → Type 0
IsOnDisk disk d = IsTrue disk.is_honest → OnDisk disk d

-- a sync has brought it to the disk, unless one failed before
abbrev pub IsSynced : {D : Type 0} → Disk D → D → Type 0
IsSynced disk d = IsTrue disk.is_honest → IsTrue (disk.is_settled d) → Only (disk.seen d) (disk.may_leave d)

-- ---- from a moment to a later one

-- reads return what this step makes of what they returned before
abbrev pub SeenChanges : {D : Type 0} → Disk D → (List ℕ → List ℕ → Type 0) → D → D → Type 0
SeenChanges disk step old new = IsTrue disk.is_honest → step (disk.seen old) (disk.seen new)

-- after a call that puts one file in the place of another: reads return what they return of the one, or of the other
abbrev pub IsOneOf : {D : Type 0} → Disk D → D → D → D → Type 0
IsOneOf disk one other new = IsTrue disk.is_honest → (disk.seen new ≡ disk.seen one) ⊎ (disk.seen new ≡ disk.seen other)

-- no sync has failed meanwhile
abbrev pub StaysSettled : {D : Type 0} → Disk D → D → D → Type 0
StaysSettled disk old new = IsTrue disk.is_honest → IsTrue (disk.is_settled old) → IsTrue (disk.is_settled new)

-- Reads return a file that a crash might have left; the same as before, unless a sync failed.
pub record SettledFrom {D : Type 0} (disk : Disk D) (old new : D) : Type 0 where
  pub left : disk.may_leave old (disk.seen new)
  pub same : IsTrue (disk.is_settled old) → disk.seen new ≡ disk.seen old

-- reads return such a file, if the device is honest
abbrev pub ShowsWhatIsLeft : {D : Type 0} → Disk D → D → D → Type 0
ShowsWhatIsLeft disk old new = IsTrue disk.is_honest → SettledFrom disk old new

-- a crash leaves what this step makes of what it might have left before
abbrev pub CrashChanges : {D : Type 0} → Disk D → (List ℕ → List ℕ → Type 0) → D → D → Type 0
CrashChanges disk step old new = IsTrue disk.is_honest → ComesFrom step (disk.may_leave old) (disk.may_leave new)

-- a crash leaves nothing that it might not have left before
abbrev pub CrashAddsNothing : {D : Type 0} → Disk D → D → D → Type 0
CrashAddsNothing disk old new = IsTrue disk.is_honest → (c : List ℕ) → disk.may_leave new c → disk.may_leave old c

-- Of bytes that were appended to a file on the disk a crash leaves some, or zeros in their place, if the device fills with zeros; and on each
-- device, if they are in the sector in which the file ends: after the end of a file the rest of its last sector is zeros.
abbrev pub AppendsOrZeros : {D : Type 0} → Disk D → D → D → ℕ → List ℕ → Type 0
AppendsOrZeros disk old new at bytes =
    IsTrue disk.is_honest → IsTrue disk.fills_with_zeros ⊎ IsInLastSector at (length bytes) → at ≡ length (disk.seen old)
    → Only (disk.seen old) (disk.may_leave old) → (c : List ℕ) → disk.may_leave new c → TornAppend bytes (disk.seen old) c

-- time goes on, and meanwhile a crash leaves these files
abbrev pub TakesTime : {D : Type 0} → Disk D → (List ℕ → Type 0) → D → D → Type 0
TakesTime disk P old new =
    IsTrue disk.is_honest → Elapses (disk.moment old) (disk.moment new) (disk.left_since old) (disk.left_since new) P

-- a crash at any moment from the old device to the new one leaves a file that has P
pub record LeavesOnly {D : Type 0} (disk : Disk D) (old new : D) (P : List ℕ → Type 0) : Type 0 where
  pub later : disk.moment old ≤ disk.moment new
  pub each : (c : List ℕ) → disk.left_since new (disk.moment old) c → P c
  -- for a run that began earlier
  pub before : (t : ℕ) (c : List ℕ) → t ≤ disk.moment old → disk.left_since new t c → disk.left_since old t c ⊎ P c

-- a crash in a call, or right before or after it, leaves a file that has P, if the device is honest
abbrev pub CrashLeaves : {D : Type 0} → Disk D → D → D → (List ℕ → Type 0) → Type 0
CrashLeaves disk old new P = IsTrue disk.is_honest → LeavesOnly disk old new P

-- ---- errors

-- The call fails only if the disk failed or was full in it, if memory ran out, or as `own` says.
pub record FaultsBetween {D T : Type 0} (disk : Disk D) (old new : D) (own : Own) (result : Result T JournalError) : Type 0 where
  pub later : disk.faults old ≤ disk.faults new
  pub cause : HasCause (disk.faults old < disk.faults new) own result

-- the call fails only so, if the device is honest
abbrev pub FailsOnlyIf : {D T : Type 0} → Disk D → D → D → Own → Result T JournalError → Type 0
FailsOnlyIf disk old new own result = IsTrue disk.is_honest → FaultsBetween disk old new own result

-- the call fails only if the disk failed or was full in it, or if memory ran out
abbrev pub FailsOnlyByDisk : {D T : Type 0} → Disk D → D → D → Result T JournalError → Type 0
FailsOnlyByDisk disk old new result = FailsOnlyIf disk old new no_own result

-- A call that changes nothing fails only if a read may fail, if memory ran out, or as `own` says: of the disk's errors it has only those of reads.
abbrev pub ReadsFailOnlyIf : {D T : Type 0} → Disk D → D → Own → Result T JournalError → Type 0
ReadsFailOnlyIf disk d own result = IsTrue disk.is_honest → HasReadCause (disk.reads_fail d) own result

-- a call that changes nothing fails only if a read may fail, or if memory ran out
abbrev pub FailsOnlyByReads : {D T : Type 0} → Disk D → D → Result T JournalError → Type 0
FailsOnlyByReads disk d result = ReadsFailOnlyIf disk d no_own result

-- A call on a device of this kind fails because of the disk: one device has had fewer such calls than another.
abbrev pub MayFail : {D : Type 0} → Disk D → Type 0
MayFail {D} disk = ∥ ((d : D) × (e : D) × (disk.faults d < disk.faults e)) ∥₁

-- A call that loses the device that failed, so that its faults have no name, fails only because of some device, if memory ran out, or as `own` says.
abbrev pub FailsOnlyIfAny : {D T : Type 0} → Disk D → Own → Result T JournalError → Type 0
FailsOnlyIfAny disk own result = IsTrue disk.is_honest → HasCause (MayFail disk) own result
