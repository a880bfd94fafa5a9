-- What reading a line returns, by what is known of it where it is something and where the line is bad.
use Rattle.std.proofs.Common.{◌≡◌, ℕ, List, Option, Some, None, ap}
use Rattle.std.specs.Prelude.{◌≢◌, IfOk, IfSome, IsErrOf, Result, Ok, Err}
use Rattle.stm_event_lines.specs.declared.checkpoint.CheckpointHeader.{CheckpointHeader}
use Rattle.stm_event_lines.specs.declared.read.LineError.{LineError}
use Rattle.stm_event_lines.specs.declared.read.LineError.TheVariants.{Bad}
use Rattle.stm_event_lines.specs.CheckpointLines.{FitsCheckpointHeader, IsCheckpointFormat}
use Rattle.stm_event_lines.specs.Fits.{Is32Bit}
use Rattle.stm_event_lines.specs.ReadLines.{ReadsAs}

pub reads_as : {A B : Type 0} (seen : A → B) (Fits : B → Type 0) (text : B → List ℕ) (line : List ℕ) (r : Result A LineError) → IfOk r (λ x. Fits (seen x)) → IfOk r (λ x. text (seen x) ≡ line)
    → (IsErrOf r Bad → (y : B) → Fits y → text y ≢ line) → ReadsAs seen Fits text line r
reads_as seen Fits text line (Ok x) f l bad = (f, l)
reads_as seen Fits text line (Err e) f l bad = λ b. bad (ap (λ x. Err x) b)

-- and back
pub read_fits : {A B : Type 0} (seen : A → B) (Fits : B → Type 0) (text : B → List ℕ) (line : List ℕ) (r : Result A LineError) → ReadsAs seen Fits text line r → IfOk r (λ x. Fits (seen x))
read_fits seen Fits text line (Ok x) h = h.0
read_fits seen Fits text line (Err e) h = tt

pub read_line : {A B : Type 0} (seen : A → B) (Fits : B → Type 0) (text : B → List ℕ) (line : List ℕ) (r : Result A LineError) → ReadsAs seen Fits text line r → IfOk r (λ x. text (seen x) ≡ line)
read_line seen Fits text line (Ok x) h = h.1
read_line seen Fits text line (Err e) h = tt

pub read_bad : {A B : Type 0} (seen : A → B) (Fits : B → Type 0) (text : B → List ℕ) (line : List ℕ) (r : Result A LineError) → ReadsAs seen Fits text line r → IsErrOf r Bad → (y : B) → Fits y → text y ≢ line
read_bad seen Fits text line (Ok x) h b = absurd cc
read_bad seen Fits text line (Err e) h b = let same : e ≡ Bad = cc in h same

-- the numbers of a checkpoint's first line are in range
pub header_fits : (r : Result CheckpointHeader LineError) → IfOk r (λ h. IsCheckpointFormat h.format) → IfOk r (λ h. Is32Bit h.next × Is32Bit h.vars × Is32Bit h.waiting) → IfOk r FitsCheckpointHeader
header_fits (Ok h) format small = (format, small.0, small.1, small.2)
header_fits (Err e) format small = tt

pub header_fits_if : (o : Option CheckpointHeader) → IfSome o (λ h. IsCheckpointFormat h.format) → IfSome o (λ h. Is32Bit h.next × Is32Bit h.vars × Is32Bit h.waiting) → IfSome o FitsCheckpointHeader
header_fits_if (Some h) format small = (format, small.0, small.1, small.2)
header_fits_if None format small = tt
