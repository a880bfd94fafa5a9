-- What the type of an open desk keeps.
use Rattle.std.specs.Prelude.{◌≡◌, ◌≢◌, List, [], ◌∷◌, ◌++◌, map, Option, Some, None, Result, Ok, Err, IfOk, if◌then◌else◌}
use Rattle.std.specs.declared.alloc.AllocError.{AllocError}
use Rattle.stm_terms.specs.declared.kinds.Ty.{Ty}
use Rattle.stm_terms.specs.declared.values.Value.{Value}
use Rattle.stm_store.specs.Cells.{Covers, plains}
use Rattle.stm_store.specs.Naming.{Named}
use Rattle.stm_eval.specs.declared.job.Job.{Job}
use Rattle.stm_eval.specs.declared.message.Evaluated.{Evaluated}
use Rattle.stm_eval.specs.EvaluatedFields.{message_ticket, message_block}
use Rattle.stm_events.specs.declared.errors.DeliverError.{DeliverError}
use Rattle.stm_events.specs.declared.errors.DeliverError.TheVariants.{Gone, Already, NoMemory}
use Rattle.stm_events.specs.declared.event.Event.{Event}
use Rattle.stm_events.specs.SlowDesk.{Slow, Waiter, is_current, find_waiter}
use Rattle.stm_events.specs.States.{IsTicketOf, IsLegalFrom}
use Rattle.stm_machine.specs.Checkpoints.{MayStart}
use Rattle.stm_machine.specs.Machine.{installation_of}
use Rattle.stm_source.specs.LaterNames.{NamesFollow}
use Rattle.stm_desk.specs.Refusals.{RefusesDelivery, requeued_if_overtaken}
use Rattle.stm_desk.specs.DeskView.{DeskView, start_state, state_of, with_event}
use Rattle.stm_commands.specs.declared.jobs.KeptJob.{KeptJob}
use Rattle.stm_commands.specs.Evaluation.{DeliveredSoFar}
use Rattle.stm_commands.specs.Jobs.{deliver_job_step}
use Rattle.stm_commands.specs.OpenDesk.{HandedOut}

-- a job with the store at its `take`
abbrev pub handed_out : List (Ty × Value) → Job → HandedOut
handed_out store j = record { ticket = j.ticket; block = j.block; store = store }

-- the ticket of a kept job was given to its block, and its store has the variables that the block names
pub record JobStands (d : DeskView) (j : HandedOut) : Type 0 where
  pub covered : Covers j.store j.block.uses
  pub ticket : IsTicketOf j.block (state_of d) j.ticket

-- the ticket of a message was given to its block, as that of a job was
abbrev pub OwnsTicket : Slow → Evaluated → Type 0
OwnsTicket s m = IsTicketOf (message_block m) s (message_ticket m)

-- the ticket of each of these answers that is a message was given to its block
abbrev pub OwnTheirTickets : Slow → List (Result Evaluated (Job × AllocError)) → Type 0
OwnTheirTickets s [] = Unit {0}
OwnTheirTickets s (a ∷ rest) = IfOk a (OwnsTicket s) × OwnTheirTickets s rest

-- the ticket of each of these jobs was given to its block, and its store has the variables that the block names
abbrev pub JobsStand : DeskView → List HandedOut → Type 0
JobsStand d [] = Unit {0}
JobsStand d (j ∷ js) = JobStands d j × JobsStand d js

-- a kept job with the store at its `take`, whether or not that store is still kept
abbrev pub job_kept : KeptJob → HandedOut
job_kept k = record { ticket = k.ticket; block = k.block; store = k.at_take.value }

-- these are the jobs, each kept with this store as that of its `take`
abbrev pub KeepsJobs : List (Ty × Value) → List Job → List KeptJob → Type 0
KeepsJobs store jobs made = map job_kept made ≡ map (handed_out store) jobs

-- the job of a kept job, without a store
abbrev pub job_within : KeptJob → Job
job_within k = record { ticket = k.ticket; block = k.block }

-- the job has its store
abbrev pub IsStored : KeptJob → Type 0
IsStored k = k.store ≡ Some k.at_take.value

-- each of these jobs has its store
abbrev pub AreStored : List KeptJob → Type 0
AreStored [] = Unit {0}
AreStored (k ∷ ks) = IsStored k × AreStored ks

-- the job has its store if its ticket is one of those that wait
abbrev pub HasStore : List Waiter → KeptJob → Type 0
HasStore ws k = (w : Waiter) → find_waiter k.ticket ws ≡ Some w → IsStored k

-- each of these jobs whose ticket is one of those that wait has its store
abbrev pub HaveStores : List Waiter → List KeptJob → Type 0
HaveStores ws [] = Unit {0}
HaveStores ws (k ∷ ks) = HasStore ws k × HaveStores ws ks

-- the copy of the present store, if there is one
abbrev pub IsPresentCopy : DeskView → Option (List (Ty × Value)) → Type 0
IsPresentCopy d None = Unit {0}
IsPresentCopy d (Some cells) = cells ≡ plains (state_of d).store

-- what the type of an open desk keeps; its kept blocks were checked over some of the names
pub record OpenInvariant (d : DeskView) (copy : Option (List (Ty × Value))) (jobs : List KeptJob) (cache : List Named) : Type 0 where
  pub start : MayStart d.table d.checkpoint
  pub legal : IsLegalFrom (start_state d) d.history
  pub copied : IsPresentCopy d copy
  pub jobs_stand : JobsStand d (map job_kept jobs)
  pub have_stores : HaveStores (state_of d).waiters jobs
  pub kept_names : NamesFollow cache (state_of d).names

-- the desk has the same table and limit, its history begins where it did, and maybe there are more events
pub record HasGrown (old new : DeskView) : Type 0 where
  pub table : new.table ≡ old.table
  pub checkpoint : new.checkpoint ≡ old.checkpoint
  pub limit : new.limit ≡ old.limit
  pub more : List Event
  pub history : new.history ≡ old.history ++ more
  pub start : MayStart new.table new.checkpoint
  pub legal : IsLegalFrom (start_state new) new.history

-- why a delivery is refused whatever is delivered: no block waits, or the one that does is current
abbrev pub refusal_unevaluated : Option Waiter → Option DeliverError
refusal_unevaluated None = Some Gone
refusal_unevaluated (Some w) = if is_current w then Some Already else None

-- the desk after a message was delivered, or refused
abbrev pub after_message : DeskView → Evaluated → Option DeliverError → DeskView
after_message d m None = with_event d 0 (installation_of m)
after_message d m (Some e) = requeued_if_overtaken e (message_ticket m) d

-- the desk after a job's block was evaluated on the job's store, and the delivery taken or refused
abbrev pub after_job : DeskView → HandedOut → DeskView
after_job d j = (deliver_job_step d (Some j)).0

-- the result of a delivery by its refusal, if there is one
abbrev pub delivery_result : Option DeliverError → Result (Unit {0}) DeliverError
delivery_result None = Ok tt
delivery_result (Some e) = Err e

-- the delivery of a message is refused for this reason, if there is one; lack of memory is none
abbrev pub IsRefusedFor : DeskView → Evaluated → Option DeliverError → Type 0
IsRefusedFor d m reason = RefusesDelivery (delivery_result reason) d m × (reason ≢ Some NoMemory)

-- how far it came before the first job
abbrev pub none_delivered : DeskView → DeliveredSoFar
none_delivered d = record { desk = d; count = 0; stop = None }
