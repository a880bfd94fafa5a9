-- What a new file has so far, and in the end.
use Rattle.std.specs.Prelude.{◌≡◌, ℕ, ◌+◌, Bool, true, false, IsTrue, List, ◌++◌, length, take, Option, Some, None}
use Rattle.stm_journal.specs.Disk.{Disk, HasLength, IsOnDisk}
use Rattle.stm_journal.specs.declared.device.Device.{Ghosts}
use Rattle.stm_journal.specs.declared.new_file.NewFile.{NewFile}

-- the first `len` bytes of the file and then those that are still to be written, if the device is honest; else none are known
abbrev pub bytes_so_far : Bool → List ℕ → ℕ → List ℕ → Option (List ℕ)
bytes_so_far true file len pending = Some (take len file ++ pending)
bytes_so_far false file len pending = None

-- the bytes that were written to it, if the device is honest: those that the device has, and those that are still to be written
abbrev pub written_bytes : {D : Type 0} → Disk D → D → ℕ → List ℕ → Option (List ℕ)
written_bytes disk device len pending = bytes_so_far disk.is_honest (disk.seen device) len pending

-- those of a new file
abbrev pub written_to : {D : Type 0} {device : Ghosts D} → NewFile D device → Option (List ℕ)
written_to {D} {device} f = written_bytes device.disk f.device f.len f.pending.items

-- how many bytes a new file has with those that are still to be written
abbrev pub length_so_far : {D : Type 0} {device : Ghosts D} → NewFile D device → ℕ
length_so_far f = f.len + length f.pending.items

-- A new file is finished: these bytes were written to it, and it has this length.
pub record IsFinished {D : Type 0} (disk : Disk D) (written : Option (List ℕ)) (device : D) (len : ℕ) : Type 0 where
  -- reads return what was written, and nothing else
  pub text : IsTrue disk.is_honest → written ≡ Some (disk.seen device)
  pub len_is : HasLength disk device len
  -- a crash leaves all of it
  pub durable : IsOnDisk disk device
