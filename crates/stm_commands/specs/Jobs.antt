-- `take`, `deliver` and `handback`: blocks are handed out, and what they do is delivered.
use Rattle.std.specs.Prelude.{ℕ, zero, suc, ◌+◌, List, [], ◌∷◌, ◌++◌, Option, Some, None, codes, decimal, length, take, nat_lt, slice_get, false, if◌then◌else◌}
use Rattle.stm_terms.specs.declared.values.Value.{Value}
use Rattle.stm_terms.specs.declared.verdicts.Verdict.{Verdict}
use Rattle.stm_terms.specs.Changes.{cell_value}
use Rattle.stm_terms.specs.ReadSet.{reads_of}
use Rattle.stm_terms.specs.Texts.{list_text}
use Rattle.stm_terms.specs.Verdict.{verdict}
use Rattle.stm_check.specs.TypedBlock.{Block}
use Rattle.stm_store.specs.declared.cell.Cell.{Cell}
use Rattle.stm_store.specs.Cells.{plains}
use Rattle.stm_queue.specs.Queue.{queued, is_out, marked}
use Rattle.stm_events.specs.declared.errors.DeliverError.{DeliverError}
use Rattle.stm_events.specs.declared.errors.DeliverError.TheVariants.{Gone}
use Rattle.stm_events.specs.declared.event.What.TheVariants.{Installed}
use Rattle.stm_machine.specs.JobsHandedOut.{block_at, sent}
use Rattle.stm_events.specs.Refusals.{install_first}
use Rattle.stm_events.specs.SlowDesk.{Waiter, Slow, find_waiter}
use Rattle.stm_desk.specs.Refusals.{requeued_if_overtaken}
use Rattle.stm_desk.specs.DeskView.{DeskView, state_of, is_full, with_event}
use Rattle.stm_lines.specs.NumberArgument.{number_argument}
use Rattle.stm_commands.specs.Arguments.{with_number, argument_refused}
use Rattle.stm_commands.specs.OpenDesk.{HandedOut, OpenDesk, on_desk}
use Rattle.stm_commands.specs.Refusals.{refused, deliver_error_text}

-- ---- take
-- how many jobs a run of the console hands out at most
abbrev pub max_jobs : ℕ
max_jobs = 65536

-- the job of a ticket: the block that waits under it, with the present store
abbrev pub job_of : Slow → ℕ → Option Block → List HandedOut
job_of s t (Some block) = record { ticket = t; block = block; store = plains s.store } ∷ []
job_of s t None = []

-- the jobs of some tickets
abbrev pub jobs_of : Slow → List ℕ → List HandedOut
jobs_of s [] = []
jobs_of s (t ∷ ts) = job_of s t (block_at s t) ++ jobs_of s ts

-- the lowest queued tickets, n of them or all
abbrev pub taken : DeskView → ℕ → List ℕ
taken d n = take n (queued d.pending)

-- a job by its number and its ticket
abbrev pub job_text : ℕ × ℕ → List ℕ
job_text j = decimal j.0 ++ codes "=" ++ decimal j.1

-- each ticket with the number of its job: these ascend from n
abbrev pub numbered : ℕ → List ℕ → List (ℕ × ℕ)
numbered n [] = []
numbered n (t ∷ ts) = (n, t) ∷ numbered (n + 1) ts

-- the line with the new jobs, the first by this number
unfoldable pub jobs_line : ℕ → List ℕ → List ℕ
jobs_line first tickets = codes "jobs " ++ list_text job_text (numbered first tickets) ++ 10 ∷ []

-- these tickets are out, and their jobs have the next numbers
abbrev pub with_jobs : OpenDesk → List ℕ → OpenDesk
with_jobs d tickets =
    record {
      desk = record d.desk { pending = sent (length tickets) d.desk.pending };
      jobs = d.jobs ++ jobs_of (state_of d.desk) tickets;
    }

-- `take` of n jobs
abbrev pub take_jobs_step : OpenDesk → ℕ → OpenDesk × List ℕ
take_jobs_step d n =
    if nat_lt max_jobs (n + length d.jobs) then (d, refused (codes "JobsFull"))
    else (with_jobs d (taken d.desk n), jobs_line (length d.jobs + 1) (taken d.desk n))

-- `take`: the lowest queued tickets are handed out; their jobs are numbered from 1 through the run
unfoldable pub take_step : OpenDesk → List ℕ → OpenDesk × List ℕ
take_step d argument = with_number (take_jobs_step d) (d, argument_refused) (number_argument argument)

-- ---- deliver
-- why what a job's block does on the job's store isn't taken; the first that holds. The block under a ticket is never
-- another one
abbrev pub delivery_first : List Cell → Option Waiter → List (ℕ × Value) → DeskView → Option DeliverError
delivery_first store None reads d = Some Gone
delivery_first store (Some w) reads d = install_first store (is_full d) w reads

-- why what a job's block does on the job's store isn't taken, if it isn't
abbrev pub delivery_refusal : DeskView → HandedOut → Option DeliverError
delivery_refusal d j =
    delivery_first (state_of d).store (find_waiter j.ticket (state_of d).waiters) (reads_of (cell_value j.store) j.block.tree) d

-- the verdict is kept from now on, in a new event
abbrev pub installed : DeskView → ℕ → Option Verdict → DeskView
installed d t (Some v) = with_event d 0 (Installed t v)
installed d t None = d

-- the line which says that the verdict of a ticket was taken
unfoldable pub delivered_line : ℕ → List ℕ
delivered_line t = codes "delivered " ++ decimal t ++ 10 ∷ []

-- a delivery of what a job's block does, which is taken or refused for this reason
abbrev pub delivery_step : DeskView → HandedOut → Option DeliverError → DeskView × List ℕ
delivery_step d j None = (installed d j.ticket (verdict (cell_value j.store) j.block.tree), delivered_line j.ticket)
delivery_step d j (Some e) = (requeued_if_overtaken e j.ticket d, deliver_error_text e)

-- the job of a number, which counts from 1
abbrev pub job_at : {J : Type 0} → ℕ → List J → Option J
job_at zero jobs = None
job_at (suc n) jobs = slice_get jobs n

-- `deliver` of a job, if there is one of its number
abbrev pub deliver_job_step : DeskView → Option HandedOut → DeskView × List ℕ
deliver_job_step d (Some j) = delivery_step d j (delivery_refusal d j)
deliver_job_step d None = (d, refused (codes "NoJob"))

-- `deliver`: what a job's block does on the store of its `take` is kept, as often as it is asked
unfoldable pub deliver_step : OpenDesk → List ℕ → OpenDesk × List ℕ
deliver_step d argument =
    with_number (λ n. on_desk d (deliver_job_step d.desk (job_at n d.jobs))) (d, argument_refused) (number_argument argument)

-- ---- handback
-- the line which says that a ticket is queued again
unfoldable pub queued_line : ℕ → List ℕ
queued_line t = codes "queued " ++ decimal t ++ 10 ∷ []

-- the desk on which a ticket is no longer out
abbrev pub handed_back : DeskView → ℕ → DeskView
handed_back d t = record d { pending = marked t false d.pending }

-- `handback` of a ticket
abbrev pub handback_ticket_step : DeskView → ℕ → DeskView × List ℕ
handback_ticket_step d t = if is_out t d.pending then (handed_back d t, queued_line t) else (d, refused (codes "NotOut"))

-- `handback`: a ticket that is out is queued again
unfoldable pub handback_step : OpenDesk → List ℕ → OpenDesk × List ℕ
handback_step d argument =
    with_number (λ t. on_desk d (handback_ticket_step d.desk t)) (d, argument_refused) (number_argument argument)
