-- Causes of errors.
use Rattle.std.proofs.Common.{◌<◌, Err}
use Rattle.stm_journal.specs.declared.error.JournalError.TheVariants.{TooLong}
use Rattle.stm_journal.specs.Device.{Own, HasCause}
use Rattle.stm_journal.specs.Disk.{Disk, MayFail}

-- a device that has failed shows that its kind may fail
pub may_fail : {D : Type 0} (disk : Disk D) (d e : D) → disk.faults d < disk.faults e → MayFail disk
may_fail disk d e more = ∣ (d, e, more) ∣₁

-- a call that returns `TooLong` when it may
pub only_too_long : {T : Type 0} (fault : Type 0) (own : Own) → own.too_long → HasCause {T = T} fault own (Err TooLong)
only_too_long fault own long = record {
  failed = λ e. absurd (cc e);
  no_space = λ e. absurd (cc e);
  full = λ e. absurd (cc e);
  too_long = λ e. long;
  torn_too_long = λ e. absurd (cc e);
}
