-- What a worker does to the slot of a job.
use Rattle.std.specs.Prelude.{◌≡◌, List, Option, Some, None, Result, Ok, Err}
use Rattle.std.specs.declared.alloc.AllocError.{AllocError}
use Rattle.stm_terms.specs.declared.kinds.Ty.{Ty}
use Rattle.stm_terms.specs.declared.values.Value.{Value}
use Rattle.stm_store.specs.Cells.{Covers}
use Rattle.stm_eval.specs.declared.job.Job.{Job}
use Rattle.stm_eval.specs.declared.message.Evaluated.{Evaluated}
use Rattle.stm_jobs.specs.declared.slot.Slot.{Slot}
use Rattle.stm_eval.specs.JobAnswers.{IsMessageOf}

-- a slot with a job to do
abbrev pub todo : Job → Slot
todo job = record { job = Some job; message = None }

-- the slot of an answer
abbrev pub slot_of : Result Evaluated (Job × AllocError) → Slot
slot_of (Ok m) = record { job = None; message = Some m }
slot_of (Err e) = record { job = Some e.0; message = None }

-- the job, where there is one, can be evaluated on these variables
abbrev pub JobIsReady : List (Ty × Value) → Option Job → Type 0
JobIsReady cells None = Unit {0}
JobIsReady cells (Some job) = Covers cells job.block.uses

-- the slot has a job alone, which can be evaluated on these variables
pub record IsReady (cells : List (Ty × Value)) (s : Slot) : Type 0 where
  pub job : JobIsReady cells s.job
  pub message : s.message ≡ None

-- what is left of a job: its message, or the job
abbrev pub IsLeft : Job → List (Ty × Value) → Option Job → Option Evaluated → Type 0
IsLeft job cells None None = ⊥
IsLeft job cells None (Some m) = IsMessageOf job cells m
IsLeft job cells (Some j) None = j ≡ job
IsLeft job cells (Some j) (Some m) = ⊥

-- the slot has what is left of the job, where there was one
abbrev pub IsWorkedOn : List (Ty × Value) → Option Job → Slot → Type 0
IsWorkedOn cells None new = Unit {0}
IsWorkedOn cells (Some job) new = IsLeft job cells new.job new.message

-- the slot had a job, and has what is left of it
abbrev pub IsWorked : List (Ty × Value) → Slot → Slot → Type 0
IsWorked cells old new = IsWorkedOn cells old.job new

-- of a job and its message one is there, and the other is not
abbrev pub AreDone : Option Job → Option Evaluated → Type 0
AreDone None None = ⊥
AreDone None (Some m) = Unit {0}
AreDone (Some j) None = Unit {0}
AreDone (Some j) (Some m) = ⊥

-- the slot has an answer
abbrev pub IsDone : Slot → Type 0
IsDone s = AreDone s.job s.message
