-- What delivering the answers of jobs does, one after another.
use Rattle.std.proofs.Common.{◌≡◌, ℕ, ◌+◌, ◌≤◌, true, false, List, [], ◌∷◌, ◌++◌, Option, Some, None, Result, Ok, Err, IfOk, map, length, refl, sym, ap, ◌∙◌, append_assoc, append-nil, arith}
use Rattle.std.proofs.lemmas.List.{map-append, length-append}
use Rattle.std.specs.Option.{is_some}
use Rattle.std.specs.declared.alloc.AllocError.{AllocError}
use Rattle.stm_terms.specs.declared.kinds.Ty.{Ty}
use Rattle.stm_terms.specs.declared.values.Value.{Value}
use Rattle.stm_eval.specs.declared.job.Job.{Job}
use Rattle.stm_eval.specs.declared.message.Evaluated.{Evaluated}
use Rattle.stm_eval.specs.EvaluatedFields.{message_ticket}
use Rattle.stm_events.specs.declared.errors.DeliverError.{DeliverError}
use Rattle.stm_eval.specs.CoveredJobs.{AreJobsCovered}
use Rattle.stm_eval.specs.JobAnswers.{IsMessageOf, AnswersJob}
use Rattle.stm_jobs.specs.Answers.{AnswerJobs}
use Rattle.stm_desk.specs.Refusals.{requeued_if_overtaken}
use Rattle.stm_desk.specs.DeskView.{DeskView, state_of}
use Rattle.stm_commands.specs.Evaluation.{DeliveredSoFar, delivered_by, delivered_next, delivered_all}
use Rattle.stm_commands.specs.Jobs.{handed_back, delivery_refusal}
use Rattle.stm_commands.specs.OpenDesk.{HandedOut}
use Rattle.stm_commands.specs.OpenInvariant.{handed_out, JobStands, JobsStand, HasGrown, OwnsTicket, OwnTheirTickets, after_message, IsRefusedFor}
use Rattle.stm_commands.proofs.Deliveries.{reason_of_job, refused_of_job}
use Rattle.stm_commands.proofs.Growing.{stand_grown, own_grown}

abbrev pub Answer : Type 0
Answer = Result Evaluated (Job × AllocError)

-- ---- one message
reason : (d : DeskView) (cells : List (Ty × Value)) (j : Job) (m : Evaluated) (r : Option DeliverError) → JobStands d (handed_out cells j) → IsMessageOf j cells m
    → IsRefusedFor d m r → r ≡ delivery_refusal d (handed_out cells j)
reason d cells j m r s i t = reason_of_job d cells j m r s i.ticket i.block i.reads_are t

-- a message that is taken
pub next_taken : (d e : DeskView) (cells : List (Ty × Value)) (j : Job) (m : Evaluated) (n : ℕ) (stop r : Option DeliverError) → is_some stop ≡ false → is_some r ≡ false
    → JobStands d (handed_out cells j) → IsMessageOf j cells m → IsRefusedFor d m r
    → e ≡ after_message d m r
    → record { desk = e; count = n + 1; stop = None } ≡ delivered_next (record { desk = d; count = n; stop = stop }) (handed_out cells j) stop
next_taken d e cells j m n (Some x) r f g s i t p = absurd cc
next_taken d e cells j m n None (Some x) f g s i t p = absurd cc
next_taken d e cells j m n None None f g s i t p =
    ap (λ (x : DeskView). record { desk = x; count = n + 1; stop = None }) (p ∙ refused_of_job d cells j m None i.ticket i.verdict_is)
    ∙ ap (delivered_by (record { desk = d; count = n; stop = None }) (handed_out cells j)) (reason d cells j m None s i t)

-- a message that is refused
pub next_refused : (d mid e : DeskView) (cells : List (Ty × Value)) (j : Job) (m : Evaluated) (n t : ℕ) (stop r : Option DeliverError) → is_some stop ≡ false → is_some r ≡ true
    → JobStands d (handed_out cells j) → IsMessageOf j cells m → IsRefusedFor d m r
    → mid ≡ after_message d m r → t ≡ message_ticket m → e ≡ handed_back mid t
    → record { desk = e; count = n; stop = r } ≡ delivered_next (record { desk = d; count = n; stop = stop }) (handed_out cells j) stop
next_refused d mid e cells j m n t (Some x) r f g s i w p q o = absurd cc
next_refused d mid e cells j m n t None None f g s i w p q o = absurd cc
next_refused d mid e cells j m n t None (Some x) f g s i w p q o =
    ap (λ (y : DeskView). record { desk = y; count = n; stop = Some x })
    (o ∙ ap (λ (y : DeskView). handed_back y t) p ∙ ap (λ (u : ℕ). handed_back (requeued_if_overtaken x (message_ticket m) d) u) (q ∙ i.ticket) ∙ ap (λ (u : ℕ). handed_back (requeued_if_overtaken x u d) j.ticket) i.ticket)
    ∙ ap (delivered_by (record { desk = d; count = n; stop = None }) (handed_out cells j)) (reason d cells j m (Some x) s i w)

-- ---- messages whose tickets were given to their blocks
-- a job's message
pub own_message : (d : DeskView) (cells : List (Ty × Value)) (j : Job) (m : Evaluated) → JobStands d (handed_out cells j) → IsMessageOf j cells m → OwnsTicket (state_of d) m
own_message d cells j m s i = rw (i.ticket, i.block) s.ticket

own_answer : (d : DeskView) (cells : List (Ty × Value)) (j : Job) (a : Answer) → JobStands d (handed_out cells j) → AnswersJob j cells a → IfOk a (OwnsTicket (state_of d))
own_answer d cells j (Ok m) s i = own_message d cells j m s i
own_answer d cells j (Err e) s i = tt

-- each of the answers to jobs
pub own_answers : (d : DeskView) (cells : List (Ty × Value)) (jobs : List Job) (answers : List Answer) → JobsStand d (map (handed_out cells) jobs) → AnswerJobs jobs cells answers
    → OwnTheirTickets (state_of d) answers
own_answers d cells [] [] s h = tt
own_answers d cells [] (a ∷ rest) s h = absurd h
own_answers d cells (j ∷ js) [] s h = absurd h
own_answers d cells (j ∷ js) (a ∷ rest) s h = (own_answer d cells j a s.0 h.0, own_answers d cells js rest s.1 h.1)

own_answer_grown : (d e : DeskView) (a : Answer) → HasGrown d e → IfOk a (OwnsTicket (state_of d)) → IfOk a (OwnsTicket (state_of e))
own_answer_grown d e (Ok m) g o = own_grown d e m g o
own_answer_grown d e (Err x) g o = tt

pub own_answers_grown : (d e : DeskView) (answers : List Answer) → HasGrown d e → OwnTheirTickets (state_of d) answers → OwnTheirTickets (state_of e) answers
own_answers_grown d e [] g o = tt
own_answers_grown d e (a ∷ rest) g o = (own_answer_grown d e a g o.0, own_answers_grown d e rest g o.1)

-- ---- answers
-- the answers that are left of some jobs, which are delivered to a desk yet
pub record IsLeft (cells : List (Ty × Value)) (so_far whole : DeliveredSoFar) (answers : List Answer) : Type 0 where
  pub jobs : List Job
  pub answered : AnswerJobs jobs cells answers
  pub stand : JobsStand so_far.desk (map (handed_out cells) jobs)
  pub done : delivered_all so_far (map (handed_out cells) jobs) ≡ whole

next_of : (cells : List (Ty × Value)) (d e whole : DeliveredSoFar) (a : Answer) (rest : List Answer) (jobs : List Job) → HasGrown d.desk e.desk
    → ((j : Job) → AnswersJob j cells a → JobStands d.desk (handed_out cells j) → e ≡ delivered_next d (handed_out cells j) d.stop)
    → AnswerJobs jobs cells (a ∷ rest) → JobsStand d.desk (map (handed_out cells) jobs) → delivered_all d (map (handed_out cells) jobs) ≡ whole → IsLeft cells e whole rest
next_of cells d e whole a rest [] g next h s p = absurd h
next_of cells d e whole a rest (j ∷ js) g next h s p = record {
  jobs = js;
  answered = h.1;
  stand = stand_grown d.desk e.desk (map (handed_out cells) js) g s.1;
  done = ap (λ (x : DeliveredSoFar). delivered_all x (map (handed_out cells) js)) (next j h.0 s.0) ∙ p;
}

pub left_next : (cells : List (Ty × Value)) (d e whole : DeliveredSoFar) (a : Answer) (rest : List Answer) → HasGrown d.desk e.desk
    → ((j : Job) → AnswersJob j cells a → JobStands d.desk (handed_out cells j) → e ≡ delivered_next d (handed_out cells j) d.stop) → IsLeft cells d whole (a ∷ rest) → IsLeft cells e whole rest
left_next cells d e whole a rest g next l = next_of cells d e whole a rest l.jobs g next l.answered l.stand l.done

ended_of : (cells : List (Ty × Value)) (d whole : DeliveredSoFar) (jobs : List Job) → AnswerJobs jobs cells [] → delivered_all d (map (handed_out cells) jobs) ≡ whole → d ≡ whole
ended_of cells d whole [] h p = p
ended_of cells d whole (j ∷ js) h p = absurd h

pub left_none : (cells : List (Ty × Value)) (d whole : DeliveredSoFar) (answers : List Answer) → length answers ≡ 0 → IsLeft cells d whole answers → d ≡ whole
left_none cells d whole [] n l = ended_of cells d whole l.jobs l.answered l.done
left_none cells d whole (a ∷ rest) n l = absurd (omega arith)

-- ---- batches
-- the jobs that are left, which are evaluated and delivered to a desk yet
pub record AreLeft (cells : List (Ty × Value)) (so_far whole : DeliveredSoFar) (jobs : List Job) : Type 0 where
  pub covered : AreJobsCovered cells jobs
  pub stand : JobsStand so_far.desk (map (handed_out cells) jobs)
  pub done : delivered_all so_far (map (handed_out cells) jobs) ≡ whole

delivered_append : (d : DeliveredSoFar) (js ks : List HandedOut) → delivered_all d (js ++ ks) ≡ delivered_all (delivered_all d js) ks
delivered_append d [] ks = refl
delivered_append d (j ∷ js) ks = delivered_append (delivered_next d j d.stop) js ks

covered_both : (cells : List (Ty × Value)) (js ks : List Job) → AreJobsCovered cells (js ++ ks) → AreJobsCovered cells js × AreJobsCovered cells ks
covered_both cells [] ks c = (tt, c)
covered_both cells (j ∷ js) ks c = let b = covered_both cells js ks c.1 in ((c.0, b.0), b.1)

stand_both : (d : DeskView) (cells : List (Ty × Value)) (js ks : List Job) → JobsStand d (map (handed_out cells) (js ++ ks)) → JobsStand d (map (handed_out cells) js) × JobsStand d (map (handed_out cells) ks)
stand_both d cells [] ks s = (tt, s)
stand_both d cells (j ∷ js) ks s = let b = stand_both d cells js ks s.1 in ((s.0, b.0), b.1)

-- the first of them, as a batch
pub batch_covered : (cells : List (Ty × Value)) (d whole : DeliveredSoFar) (batch rest : List Job) → AreLeft cells d whole (batch ++ rest) → AreJobsCovered cells batch
batch_covered cells d whole batch rest l = (covered_both cells batch rest l.covered).0

pub batch_stands : (cells : List (Ty × Value)) (d whole : DeliveredSoFar) (batch rest : List Job) → AreLeft cells d whole (batch ++ rest) → JobsStand d.desk (map (handed_out cells) batch)
batch_stands cells d whole batch rest l = (stand_both d.desk cells batch rest l.stand).0

-- the jobs after a batch that was delivered
pub batch_done : (cells : List (Ty × Value)) (d e whole : DeliveredSoFar) (batch rest : List Job) → HasGrown d.desk e.desk → e ≡ delivered_all d (map (handed_out cells) batch) → AreLeft cells d whole (batch ++ rest)
    → AreLeft cells e whole rest
batch_done cells d e whole batch rest g p l = record {
  covered = (covered_both cells batch rest l.covered).1;
  stand = stand_grown d.desk e.desk (map (handed_out cells) rest) g (stand_both d.desk cells batch rest l.stand).1;
  done = ap (λ (x : DeliveredSoFar). delivered_all x (map (handed_out cells) rest)) p
      ∙ sym (delivered_append d (map (handed_out cells) batch) (map (handed_out cells) rest))
      ∙ ap (delivered_all d) (sym (map-append (handed_out cells) batch rest)) ∙ l.done;
}

-- a batch and the jobs after it, before and after the next one joined it
pub batch_longer : (batch rest longer shorter : List Job) (j : Job) → rest ≡ j ∷ shorter → longer ≡ batch ++ j ∷ [] → batch ++ rest ≡ longer ++ shorter
batch_longer batch rest longer shorter j e p =
    ap (λ (js : List Job). batch ++ js) e ∙ sym (append_assoc batch (j ∷ []) shorter) ∙ ap (λ (js : List Job). js ++ shorter) (sym p)

-- if no job is left after a batch
pub last_batch : (batch rest : List Job) → length rest ≡ 0 → batch ++ rest ≡ batch
last_batch batch [] n = append-nil batch
last_batch batch (j ∷ js) n = absurd (omega arith)

pub batch_fits : (count most limit : ℕ) (batch rest : List Job) → count + length (batch ++ rest) ≤ most → most ≤ limit → count + length batch ≤ limit
batch_fits count most limit batch rest f h = let n = length-append batch rest in omega (arith, f, h, n)

pub rest_fits : (count next most : ℕ) (batch rest : List Job) → count + length (batch ++ rest) ≤ most → next ≤ count + length batch → next + length rest ≤ most
rest_fits count next most batch rest f h = let n = length-append batch rest in omega (arith, f, h, n)
