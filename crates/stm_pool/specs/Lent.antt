-- What the calls do that are lent the desk under the lock and a client's pass.
use Rattle.std.specs.Prelude.{◌≡◌, true, List, Option, Some, None, Result, Ok, Err}
use Rattle.stm_terms.specs.declared.kinds.Ty.{Ty}
use Rattle.stm_terms.specs.declared.values.Value.{Value}
use Rattle.stm_store.specs.Cells.{plains}
use Rattle.stm_eval.specs.declared.job.Job.{Job}
use Rattle.stm_eval.specs.declared.message.Evaluated.{Evaluated}
use Rattle.stm_eval.specs.EvaluatedFields.{message_ticket}
use Rattle.stm_queue.specs.Queue.{first_queued, marked}
use Rattle.stm_events.specs.declared.errors.DeliverError.{DeliverError}
use Rattle.stm_events.specs.declared.event.What.{What}
use Rattle.stm_machine.specs.JobsHandedOut.{block_at}
use Rattle.stm_machine.specs.Machine.{installation_of}
use Rattle.stm_desk.specs.DeskView.{DeskView, state_of, with_event}
use Rattle.stm_desk.specs.Refusals.{requeued_if_overtaken}
use Rattle.stm_pool.specs.Own.{Known, having_done}

-- what happened is the last event of the desk's history and of the list in the client's pass
pub record JoinsBoth (old new : DeskView) (pass pass' : Known) (what : What) : Type 0 where
  pub desk : new ≡ with_event old pass.client what
  pub own : pass' ≡ having_done pass what

-- What a delivery did: the verdict is installed; or, after an error, the message comes back, the pass is as it was, and the desk too, but
-- that the ticket is queued if the message was overtaken.
abbrev pub DeliversAs : DeskView → DeskView → Known → Known → Evaluated → Result (Unit {0}) (Evaluated × DeliverError) → Type 0
DeliversAs old new pass pass' message (Ok done) = JoinsBoth old new pass pass' (installation_of message)
DeliversAs old new pass pass' message (Err e) = (e.0 ≡ message) × (pass' ≡ pass) × (new ≡ requeued_if_overtaken e.1 (message_ticket message) old)

-- the job of the lowest queued ticket was taken, with a copy of the store
pub record HasTakenJob (old new : DeskView) (copy : List (Ty × Value)) (job : Job) : Type 0 where
  -- its ticket is the lowest that is queued
  pub ticket : first_queued old.pending ≡ Some job.ticket
  -- its block is the one that waits under the ticket
  pub block : block_at (state_of old) job.ticket ≡ Some job.block
  -- the copy is of the present store
  pub store : copy ≡ plains (state_of old).store
  -- the ticket is out from then on
  pub out : new ≡ record old { pending = marked job.ticket true old.pending }

-- Which job was taken, with which copy of the store: none if no ticket is queued, and then the desk is as it was.
abbrev pub TakesJob : DeskView → DeskView → Option (List (Ty × Value) × Job) → Type 0
TakesJob old new None = (first_queued old.pending ≡ None) × (new ≡ old)
TakesJob old new (Some taken) = HasTakenJob old new taken.0 taken.1
