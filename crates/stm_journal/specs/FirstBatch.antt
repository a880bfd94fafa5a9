-- A first batch whose front is known: the steps in which it is written, and what the file may be until it is opened.
use Rattle.std.specs.Prelude.{◌≡◌, ◌≢◌, ◌⊎◌, ⊤, ◌≤◌, ℕ, IsTrue, List, [], ◌∷◌, length, take, drop}
use Rattle.stm_journal.specs.Disk.{Disk, Shows}
use Rattle.stm_journal.specs.Journal.{HasAllOrNone, IsAtRest, most_batch}
use Rattle.stm_journal.specs.Text.{IsWhole}
use Rattle.stm_journal.specs.declared.journal.Journal.{Journal}
use Rattle.stm_journal.specs.declared.sync_mode.SyncMode.TheVariants.{Never}

-- The file is as far as one of these steps: it has those before, and of this one any bytes, no more than it has. If it has all steps, any
-- bytes may follow.
abbrev pub IsAsFar : List (List ℕ) → List ℕ → Type 0
IsAsFar [] file = ⊤
IsAsFar (step ∷ steps) file = (length file ≤ length step) ⊎ ((take (length step) file ≡ step) × IsAsFar steps (drop (length step) file))

-- The steps in which a batch with this front is begun: a 0 in place of its first byte, its second byte, and the rest of the front.
abbrev pub front_steps : List ℕ → List (List ℕ)
front_steps front = (0 ∷ []) ∷ take 1 (drop 1 front) ∷ drop 2 front ∷ []

-- The file may be one in which a first batch with this front was begun.
abbrev pub IsBegun : List ℕ → List ℕ → Type 0
IsBegun front file = IsAsFar (front_steps front) file

-- A first batch may be put into the file of this journal, whose front of this length is known.
pub record MayPutFirst {D : Type 0} (disk : Disk D) (j : Journal D) (batch : List ℕ) (front : ℕ) : Type 0 where
  pub at_rest : IsAtRest disk j
  pub empty : Shows disk j.device []
  -- without a sync a crash could leave a part of the batch
  pub syncs : j.sync ≢ Never
  pub lines : IsWhole batch
  pub room : length batch ≤ most_batch
  -- the first two bytes of the front are steps of their own (`front_steps`)
  pub some : 2 ≤ front
  pub within : front ≤ length batch

-- The file stands for the whole batch or for nothing. It is begun, or it has all of the batch, with any byte in place of the first one.
pub record LeavesFirst (front batch file : List ℕ) : Type 0 where
  pub lines : HasAllOrNone [] batch file
  pub begun : IsBegun front file ⊎ (drop 1 file ≡ drop 1 batch)

-- Reads return such a file.
abbrev pub ShowsFirst : {D : Type 0} → Disk D → D → List ℕ → List ℕ → Type 0
ShowsFirst disk d front batch = IsTrue disk.is_honest → LeavesFirst front batch (disk.seen d)
