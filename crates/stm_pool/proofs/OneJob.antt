-- The job of the one ticket that is taken.
use Rattle.std.proofs.Common.{◌≡◌, ℕ, ◌+◌, ◌≤◌, true, false, List, [], ◌∷◌, ◌++◌, map, take, length, Option, Some, None, refl, sym, ap, subst, ◌∙◌, arith, length-append}
use Rattle.std.proofs.lemmas.List.{length-map}
use Rattle.std.specs.Prelude.{option_to_list}
use Rattle.stm_terms.specs.declared.kinds.Ty.{Ty}
use Rattle.stm_terms.specs.declared.values.Value.{Value}
use Rattle.stm_eval.specs.declared.job.Job.{Job}
use Rattle.stm_queue.specs.Queue.{Entry, queued, first_queued, sent_out, marked}
use Rattle.stm_events.specs.SlowDesk.{Slow}
use Rattle.stm_machine.specs.JobsHandedOut.{sent, block_at, AreJobs}
use Rattle.stm_desk.specs.DeskView.{DeskView, state_of}
use Rattle.stm_desk.specs.HandedOut.{HasHandedOut}
use Rattle.stm_pool.specs.Lent.{HasTakenJob, TakesJob}

-- the lowest queued ticket is the first of those that are queued
first_is : (es : List Entry) → take 1 (queued es) ≡ option_to_list (first_queued es)
first_is [] = refl
first_is ((t, true) ∷ es) = first_is es
first_is ((t, false) ∷ es) = refl

popped : (rest : List Job) (job : Job) (o : Option ℕ) → map (λ (j : Job). j.ticket) (rest ++ job ∷ []) ≡ option_to_list o → Some job.ticket ≡ o
popped [] job None e = absurd (omega (arith, ap length e))
popped [] job (Some t) e = cc e
popped (j ∷ js) job None e = absurd (omega (arith, ap length e))
popped (j ∷ js) job (Some t) e =
    let l : length (map (λ (j : Job). j.ticket) (js ++ job ∷ [])) ≡ length js + 1 = length-map (js ++ job ∷ []) (λ (j : Job). j.ticket) ∙ length-append js (job ∷ []) in
    absurd (omega (arith, ap length e, l))

unpopped : (o : Option ℕ) → [] ≡ option_to_list o → None ≡ o
unpopped None e = refl
unpopped (Some t) e = absurd (omega (arith, ap length e))

-- what was taken of the list of jobs is the job of the lowest queued ticket
taken_first : (es : List Entry) (jobs rest : List Job) (job : Job) → map (λ (j : Job). j.ticket) jobs ≡ take 1 (queued es) → jobs ≡ rest ++ job ∷ [] → Some job.ticket ≡ first_queued es
taken_first es jobs rest job tickets is = popped rest job (first_queued es) (ap (map (λ (j : Job). j.ticket)) (sym is) ∙ tickets ∙ first_is es)

-- where there is none, no ticket is queued
taken_none : (es : List Entry) (jobs : List Job) → map (λ (j : Job). j.ticket) jobs ≡ take 1 (queued es) → jobs ≡ [] → None ≡ first_queued es
taken_none es jobs tickets is = unpopped (first_queued es) (ap (map (λ (j : Job). j.ticket)) (sym is) ∙ tickets ∙ first_is es)

one_at_most : (o : Option ℕ) → length (option_to_list o) ≤ 1
one_at_most None = omega arith
one_at_most (Some t) = omega arith

-- it was the only job
one_taken : (es : List Entry) (jobs rest : List Job) (job : Job) → map (λ (j : Job). j.ticket) jobs ≡ take 1 (queued es) → jobs ≡ rest ++ job ∷ [] → length jobs ≡ 1
one_taken es jobs rest job tickets is =
    let few : length (option_to_list (first_queued es)) ≤ 1 = one_at_most (first_queued es) in
    let same : length (map (λ (j : Job). j.ticket) jobs) ≡ length (option_to_list (first_queued es)) = ap (λ (l : List ℕ). length l) (tickets ∙ first_is es) in
    let mapped : length (map (λ (j : Job). j.ticket) jobs) ≡ length jobs = length-map jobs (λ (j : Job). j.ticket) in
    let more : length jobs ≡ length rest + 1 = ap (λ (l : List Job). length l) is ∙ length-append rest (job ∷ []) in
    omega (arith, few, same, mapped, more)

-- so its ticket alone is sent out
one_sent : (es : List Entry) (jobs rest : List Job) (job : Job) → map (λ (j : Job). j.ticket) jobs ≡ take 1 (queued es) → jobs ≡ rest ++ job ∷ [] → sent (length jobs) es ≡ marked job.ticket true es
one_sent es jobs rest job tickets is =
    ap (λ (n : ℕ). sent n es) (one_taken es jobs rest job tickets is) ∙ ap (λ (o : Option ℕ). sent_out o es) (sym (taken_first es jobs rest job tickets is))

last_is_job : (s : Slow) (rest : List Job) (job : Job) → AreJobs s (rest ++ job ∷ []) → block_at s job.ticket ≡ Some job.block
last_is_job s [] job h = h.0
last_is_job s (j ∷ js) job h = last_is_job s js job h.1

-- of the jobs that a desk hands out, at most one, the last was taken
pub job_taken : (old new : DeskView) (copy : List (Ty × Value)) (jobs rest : List Job) (job : Job) → HasHandedOut 1 old new copy jobs → jobs ≡ rest ++ job ∷ [] → HasTakenJob old new copy job
job_taken old new copy jobs rest job h is = record {
  ticket = sym (taken_first old.pending jobs rest job h.tickets is);
  block = last_is_job (state_of old) rest job (subst (λ (l : List Job). AreJobs (state_of old) l) is h.blocks);
  store = h.store;
  out = h.out ∙ ap (λ (p : List Entry). record old { pending = p }) (one_sent old.pending jobs rest job h.tickets is);
}

-- there was none
pub no_job_taken : (old new : DeskView) (copy : List (Ty × Value)) (jobs : List Job) → HasHandedOut 1 old new copy jobs → jobs ≡ [] → TakesJob old new None
no_job_taken old new copy jobs h none = (
  sym (taken_none old.pending jobs h.tickets none),
  h.out ∙ ap (λ (l : List Job). record old { pending = sent (length l) old.pending }) none,
)
