-- What a desk hands out to evaluators.
use Rattle.std.specs.Prelude.{◌≡◌, ℕ, List, map, take, length}
use Rattle.stm_terms.specs.declared.kinds.Ty.{Ty}
use Rattle.stm_terms.specs.declared.values.Value.{Value}
use Rattle.stm_store.specs.Cells.{plains}
use Rattle.stm_queue.specs.Queue.{queued}
use Rattle.stm_eval.specs.declared.job.Job.{Job}
use Rattle.stm_eval.specs.CoveredJobs.{AreJobsCovered}
use Rattle.stm_machine.specs.JobsHandedOut.{sent, AreJobs}
use Rattle.stm_desk.specs.DeskView.{DeskView, state_of}

-- the jobs of the n lowest queued tickets, or of all of them, were handed out with a copy of the store
pub record HasHandedOut (n : ℕ) (old new : DeskView) (copy : List (Ty × Value)) (jobs : List Job) : Type 0 where
  -- they are of the lowest queued tickets
  pub tickets : map (λ j. j.ticket) jobs ≡ take n (queued old.pending)
  -- each is of the block that waits under its ticket
  pub blocks : AreJobs (state_of old) jobs
  -- the copy is of the present store
  pub store : copy ≡ plains (state_of old).store
  -- the copy has their variables
  pub covered : AreJobsCovered copy jobs
  -- their tickets are out from then on
  pub out : new ≡ record old { pending = sent (length jobs) old.pending }
