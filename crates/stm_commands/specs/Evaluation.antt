-- `eval`: all queued blocks are evaluated, and what they do is delivered.
use Rattle.std.specs.Prelude.{◌≡◌, ℕ, ◌+◌, List, [], ◌∷◌, ◌++◌, Option, Some, None, codes, decimal, length}
use Rattle.stm_terms.specs.Changes.{cell_value}
use Rattle.stm_terms.specs.Verdict.{verdict}
use Rattle.stm_events.specs.declared.errors.DeliverError.{DeliverError}
use Rattle.stm_machine.specs.JobsHandedOut.{sent}
use Rattle.stm_terms.specs.Limits.{max_waiting}
use Rattle.stm_desk.specs.declared.evaluate.Evaluation.{Evaluation}
use Rattle.stm_desk.specs.Refusals.{requeued_if_overtaken}
use Rattle.stm_desk.specs.DeskView.{DeskView, state_of}
use Rattle.stm_commands.specs.Arguments.{with_nothing, argument_refused}
use Rattle.stm_commands.specs.Jobs.{installed, handed_back, jobs_of, taken, delivery_refusal}
use Rattle.stm_commands.specs.OpenDesk.{HandedOut, OpenDesk, on_desk}
use Rattle.stm_commands.specs.Refusals.{deliver_error_text}

-- how far delivering came: the desk, how many were taken, and the first refusal
pub record DeliveredSoFar : Type 0 where
  pub desk : DeskView
  pub count : ℕ
  pub stop : Option DeliverError

-- what a job's block does is taken, or refused; then the job's ticket is queued again
abbrev pub delivered_by : DeliveredSoFar → HandedOut → Option DeliverError → DeliveredSoFar
delivered_by d j None = record {
  desk = installed d.desk j.ticket (verdict (cell_value j.store) j.block.tree);
  count = d.count + 1;
  stop = None;
}
delivered_by d j (Some e) = record { desk = handed_back (requeued_if_overtaken e j.ticket d.desk) j.ticket; count = d.count; stop = Some e }

-- after a refusal the tickets that come after it are queued again too
abbrev pub delivered_next : DeliveredSoFar → HandedOut → Option DeliverError → DeliveredSoFar
delivered_next d j None = delivered_by d j (delivery_refusal d.desk j)
delivered_next d j (Some e) = record d { desk = handed_back d.desk j.ticket }

-- how far the delivery of jobs comes, one after another
abbrev pub delivered_all : DeliveredSoFar → List HandedOut → DeliveredSoFar
delivered_all d [] = d
delivered_all d (j ∷ js) = delivered_all (delivered_next d j d.stop) js

-- the line with how many blocks were evaluated
unfoldable pub evaluated_line : ℕ → List ℕ
evaluated_line n = codes "evaluated " ++ decimal n ++ 10 ∷ []

-- all queued tickets, since no more may wait
abbrev pub all_queued : DeskView → List ℕ
all_queued d = taken d max_waiting

-- the queued tickets are taken, and what their blocks do on the present store is delivered, in ascending order
abbrev pub evaluated : DeskView → DeliveredSoFar
evaluated d =
    delivered_all
    (record { desk = record d { pending = sent (length (all_queued d)) d.pending }; count = 0; stop = None })
    (jobs_of (state_of d) (all_queued d))

-- how far the delivery of jobs came, with the desk as it then is
abbrev pub delivered_so_far : DeskView → Evaluation → DeliveredSoFar
delivered_so_far d p = record { desk = d; count = p.count; stop = p.stop }

-- all that was queued on the old desk was evaluated and delivered: this is the new desk, the number of deliveries and the first refusal
abbrev pub EvaluatesQueued : DeskView → DeskView → Evaluation → Type 0
EvaluatesQueued old new p = delivered_so_far new p ≡ evaluated old

-- an evaluation of all that was queued, by how it ended: how many blocks were evaluated, or the first refusal
abbrev pub evaluation_text : ℕ → Option DeliverError → List ℕ
evaluation_text n None = evaluated_line n
evaluation_text n (Some e) = deliver_error_text e

-- `eval` of a desk
abbrev pub eval_desk_step : DeskView → DeskView × List ℕ
eval_desk_step d = let e = evaluated d in (e.desk, evaluation_text e.count e.stop)

-- `eval`: evaluates and delivers all that is queued
unfoldable pub eval_step : OpenDesk → List ℕ → OpenDesk × List ℕ
eval_step d argument = with_nothing (on_desk d (eval_desk_step d.desk)) (d, argument_refused) argument
