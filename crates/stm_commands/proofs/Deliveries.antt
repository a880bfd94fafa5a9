-- What a delivery of a job's message does: the block under a ticket stays the same, so it is the job's.
use Rattle.std.proofs.Common.{◌≡◌, ◌≢◌, ℕ, zero, suc, List, [], ◌∷◌, Option, Some, None, Result, Ok, Err, IfOk, IfErr, OnOk, refl, sym, ap, ◌∙◌, subst, append-nil}
use Rattle.std.specs.Prelude.{slice_get, length, map}
use Rattle.stm_terms.specs.declared.kinds.Ty.{Ty}
use Rattle.stm_terms.specs.declared.values.Value.{Value}
use Rattle.stm_terms.specs.declared.verdicts.Verdict.{Verdict}
use Rattle.stm_terms.specs.UnlessNoMemory.{RefusedAs}
use Rattle.stm_terms.specs.Changes.{cell_value}
use Rattle.stm_terms.specs.ReadSet.{reads_of}
use Rattle.stm_terms.specs.Verdict.{verdict}
use Rattle.stm_check.specs.TypedBlock.{Block}
use Rattle.stm_eval.specs.declared.job.Job.{Job}
use Rattle.stm_eval.specs.declared.message.Evaluated.{Evaluated}
use Rattle.stm_eval.specs.EvaluatedFields.{message_ticket, message_block, message_reads, message_verdict}
use Rattle.stm_events.specs.declared.errors.DeliverError.{DeliverError}
use Rattle.stm_events.specs.declared.event.What.TheVariants.{Installed}
use Rattle.stm_queue.specs.Queue.{Entry}
use Rattle.stm_store.specs.Cells.{plains}
use Rattle.stm_eval.specs.CoveredJobs.{AreJobsCovered}
use Rattle.stm_machine.specs.JobsHandedOut.{AreJobs, sent}
use Rattle.stm_events.specs.declared.errors.DeliverError.TheVariants.{Gone, NoMemory}
use Rattle.stm_events.specs.Refusals.{install_first, DeliveryRefusedAt}
use Rattle.stm_events.specs.SlowDesk.{Waiter, find_waiter}
use Rattle.stm_events.specs.States.{IsPossible, IsLegalFrom}
use Rattle.stm_machine.specs.Checkpoints.{MayStart}
use Rattle.stm_desk.specs.Refusals.{RefusesDelivery, requeued_if_overtaken}
use Rattle.stm_desk.specs.DeskView.{DeskView, start_state, state_of, is_full, with_event}
use Rattle.stm_desk.specs.declared.evaluate.Evaluation.{Evaluation}
use Rattle.stm_commands.specs.Evaluation.{DeliveredSoFar, delivered_all, all_queued, evaluated}
use Rattle.stm_commands.specs.Jobs.{jobs_of, job_at, delivery_first, delivery_refusal, installed, delivery_step, deliver_job_step}
use Rattle.stm_commands.specs.OpenDesk.{HandedOut}
use Rattle.stm_commands.specs.OpenInvariant.{handed_out, JobStands, JobsStand, HasGrown, after_message, delivery_result, IsRefusedFor}
use Rattle.stm_commands.proofs.Growing.{now_next, grown_next, given_are, given_stand, queued_stand}

-- the block that waits is the job's
stays : (d : DeskView) (cells : List (Ty × Value)) (j : Job) → JobStands d (handed_out cells j) → (w : Waiter) → find_waiter j.ticket (state_of d).waiters ≡ Some w → w.block ≡ j.block
stays d cells j s w e = s.ticket.waits w e

reason_is : (o r : Option DeliverError) → r ≢ Some NoMemory → RefusedAs NoMemory o (delivery_result r) → r ≡ o
reason_is None None n h = refl
reason_is None (Some e) n h = absurd (n (ap Some h))
reason_is (Some x) None n h = cc
reason_is (Some x) (Some e) n h = let q : e ≡ x = cc in ap Some q

first_reason : (d : DeskView) (j : Job) (o : Option Waiter) (r : Option DeliverError) (reads : List (ℕ × Value)) → ((w : Waiter) → o ≡ Some w → w.block ≡ j.block) → r ≢ Some NoMemory
    → DeliveryRefusedAt (state_of d).store (is_full d) o j.block reads (delivery_result r) → r ≡ delivery_first (state_of d).store o reads d
first_reason d j (Some w) r reads same n h = reason_is (install_first (state_of d).store (is_full d) w reads) r n (h.1 (ap (λ b. b.tree) (same w refl)))
first_reason d j None r reads same n h = reason_is (Some Gone) r n h

-- the first reason against the message is the job's
pub reason_of_job : (d : DeskView) (cells : List (Ty × Value)) (j : Job) (m : Evaluated) (r : Option DeliverError) → JobStands d (handed_out cells j)
    → message_ticket m ≡ j.ticket → message_block m ≡ j.block → message_reads m ≡ reads_of (cell_value cells) j.block.tree
    → IsRefusedFor d m r → r ≡ delivery_refusal d (handed_out cells j)
reason_of_job d cells j m r s t b rs refused =
    first_reason d j (find_waiter j.ticket (state_of d).waiters) r (reads_of (cell_value cells) j.block.tree) (stays d cells j s) refused.1
    (subst (λ (x : List (ℕ × Value)). DeliveryRefusedAt (state_of d).store (is_full d) (find_waiter j.ticket (state_of d).waiters) j.block x (delivery_result r)) rs
    (subst (λ (x : Block). DeliveryRefusedAt (state_of d).store (is_full d) (find_waiter j.ticket (state_of d).waiters) x (message_reads m) (delivery_result r)) b
    (subst (λ (x : ℕ). DeliveryRefusedAt (state_of d).store (is_full d) (find_waiter x (state_of d).waiters) (message_block m) (message_reads m) (delivery_result r)) t refused.0)))

-- what is reported of a refused delivery is why it is refused
pub reported_reason : {E : Type 0} (d : DeskView) (m : Evaluated) (e : DeliverError) (r : Result (Option DeliverError) E) → RefusesDelivery {A = Unit {0}} (Err e) d m → IfOk r (λ r. (r ≡ Some e) × (e ≢ NoMemory)) → IfOk r (λ r. IsRefusedFor d m r)
reported_reason d m e (Ok o) h p = subst (IsRefusedFor d m) (sym p.0) (h, λ q. p.1 (let i : e ≡ NoMemory = cc in i))
reported_reason d m e (Err x) h p = tt

-- and so is what it leaves
pub refused_of_job : (d : DeskView) (cells : List (Ty × Value)) (j : Job) (m : Evaluated) (r : Option DeliverError) → message_ticket m ≡ j.ticket → verdict (cell_value cells) j.block.tree ≡ Some (message_verdict m)
    → after_message d m r ≡ (delivery_step d (handed_out cells j) r).0
refused_of_job d cells j m None t v = ap (λ (x : ℕ). with_event d 0 (Installed x (message_verdict m))) t ∙ sym (ap (installed d j.ticket) v)
refused_of_job d cells j m (Some e) t v = ap (λ (x : ℕ). requeued_if_overtaken e x d) t

pub done_of_job : (d e : DeskView) (cells : List (Ty × Value)) (j : Job) (m : Evaluated) (r : Option DeliverError) → message_ticket m ≡ j.ticket → verdict (cell_value cells) j.block.tree ≡ Some (message_verdict m)
    → r ≡ delivery_refusal d (handed_out cells j) → e ≡ after_message d m r → e ≡ (deliver_job_step d (Some (handed_out cells j))).0
done_of_job d e cells j m r t v p q = q ∙ refused_of_job d cells j m r t v ∙ ap (λ (o : Option DeliverError). (delivery_step d (handed_out cells j) o).0) p

-- how a delivery leaves the desk, by its answer
pub delivered_grown : (d e : DeskView) (t : ℕ) (v : Verdict) (r : Result (Unit {0}) (Evaluated × DeliverError)) → OnOk r (e ≡ with_event d 0 (Installed t v)) → IfErr r (λ x. e ≡ requeued_if_overtaken x.1 t d) → MayStart e.table e.checkpoint → IsLegalFrom (start_state e) e.history
    → HasGrown d e
delivered_grown d e t v (Ok x) p q start legal = grown_next d e 0 (Installed t v) p start legal
delivered_grown d e t v (Err x) p q start legal =
    record { table = ap (λ s. s.table) q; checkpoint = ap (λ s. s.checkpoint) q; limit = ap (λ s. s.limit) q; more = []; history = ap (λ s. s.history) q ∙ sym (append-nil d.history); start = start; legal = legal }

pub delivered_store : (d e : DeskView) (t : ℕ) (v : Verdict) (r : Result (Unit {0}) (Evaluated × DeliverError)) → OnOk r (e ≡ with_event d 0 (Installed t v)) → IfErr r (λ x. e ≡ requeued_if_overtaken x.1 t d) → (state_of e).store ≡ (state_of d).store
delivered_store d e t v (Ok x) p q = ap (λ s. (state_of s).store) p ∙ ap (λ s. s.store) (now_next d 0 (Installed t v))
delivered_store d e t v (Err x) p q = ap (λ s. (state_of s).store) q

pub reason_if_ok : {E : Type 0} → (d : DeskView) (cells : List (Ty × Value)) (j : Job) (m : Evaluated) (r : Result (Option DeliverError) E) → JobStands d (handed_out cells j)
    → message_ticket m ≡ j.ticket → message_block m ≡ j.block → message_reads m ≡ reads_of (cell_value cells) j.block.tree
    → IfOk r (λ r. IsRefusedFor d m r) → IfOk r (λ r. r ≡ delivery_refusal d (handed_out cells j))
reason_if_ok d cells j m (Ok r) s t b rs refused = reason_of_job d cells j m r s t b rs refused
reason_if_ok d cells j m (Err e) s t b rs refused = tt

pub done_if_ok : {E : Type 0} → (d e : DeskView) (cells : List (Ty × Value)) (j : Job) (m : Evaluated) (r : Result (Option DeliverError) E) → message_ticket m ≡ j.ticket → verdict (cell_value cells) j.block.tree ≡ Some (message_verdict m)
    → IfOk r (λ r. r ≡ delivery_refusal d (handed_out cells j)) → IfOk r (λ r. e ≡ after_message d m r) → OnOk r (e ≡ (deliver_job_step d (Some (handed_out cells j))).0)
done_if_ok d e cells j m (Ok r) t v p q = done_of_job d e cells j m r t v p q
done_if_ok d e cells j m (Err x) t v p q = tt

-- the job of a number stands
stands_get : (d : DeskView) (js : List HandedOut) (n : ℕ) (j : HandedOut) → JobsStand d js → Some j ≡ slice_get js n → JobStands d j
stands_get d [] n j s e = absurd cc
stands_get d (k ∷ js) zero j s e = let p : j ≡ k = cc in subst (JobStands d) (sym p) s.0
stands_get d (k ∷ js) (suc n) j s e = stands_get d js n j s.1 e

pub stands_at : (d : DeskView) (js : List HandedOut) (n : ℕ) (j : HandedOut) → JobsStand d js → Some j ≡ job_at n js → JobStands d j
stands_at d js zero j s e = absurd cc
stands_at d js (suc n) j s e = stands_get d js n j s e

-- ---- all that is queued
ticket_count : (js : List Job) → length js ≡ length (map (λ (j : Job). j.ticket) js)
ticket_count [] = refl
ticket_count (j ∷ js) = ap suc (ticket_count js)

begun : DeskView → List Entry → DeliveredSoFar
begun d p = record { desk = record d { pending = p }; count = 0; stop = None }

taken_all : (d e : DeskView) (cells : List (Ty × Value)) (js : List Job) → e ≡ record d { pending = sent (length js) d.pending } → map (λ (j : Job). j.ticket) js ≡ all_queued d → cells ≡ plains (state_of d).store → AreJobs (state_of d) js
    → delivered_all (record { desk = e; count = 0; stop = None }) (map (handed_out cells) js) ≡ evaluated d
unfolding begun
taken_all d e cells js q t s a =
    ap (λ (x : DeskView). delivered_all (record { desk = x; count = 0; stop = None }) (map (handed_out cells) js)) q
    ∙ ap (λ (n : ℕ). delivered_all (begun d (sent n d.pending)) (map (handed_out cells) js)) (ticket_count js ∙ ap (λ (ts : List ℕ). length ts) t)
    ∙ ap (delivered_all (begun d (sent (length (all_queued d)) d.pending))) (given_are d cells js s a ∙ ap (jobs_of (state_of d)) t)

progress_is : {E : Type 0} → (e : DeskView) (x y : DeliveredSoFar) (r : Result Evaluation E) → x ≡ y → IfOk r (λ p. record { desk = e; count = p.count; stop = p.stop } ≡ x) → IfOk r (λ p. record { desk = e; count = p.count; stop = p.stop } ≡ y)
progress_is e x y (Ok p) q h = h ∙ q
progress_is e x y (Err z) q h = tt

pub evaluated_all : {E : Type 0} → (d e f : DeskView) (cells : List (Ty × Value)) (js : List Job) (r : Result Evaluation E) → e ≡ record d { pending = sent (length js) d.pending } → map (λ (j : Job). j.ticket) js ≡ all_queued d
    → cells ≡ plains (state_of d).store → AreJobs (state_of d) js
    → IfOk r (λ p. record { desk = f; count = p.count; stop = p.stop } ≡ delivered_all (record { desk = e; count = 0; stop = None }) (map (handed_out cells) js))
    → IfOk r (λ p. record { desk = f; count = p.count; stop = p.stop } ≡ evaluated d)
evaluated_all d e f cells js r q t s a h = progress_is f _ _ r (taken_all d e cells js q t s a) h

pub given_queued : (d e : DeskView) (cells : List (Ty × Value)) (js : List Job) → IsPossible (state_of d) → e ≡ record d { pending = sent (length js) d.pending } → AreJobs (state_of d) js → AreJobsCovered cells js → JobsStand e (map (handed_out cells) js)
given_queued d e cells js p q a c =
    subst (λ (f : DeskView). JobsStand f (map (handed_out cells) js)) (sym q) (queued_stand d (sent (length js) d.pending) (map (handed_out cells) js) (given_stand d cells js p a c))
