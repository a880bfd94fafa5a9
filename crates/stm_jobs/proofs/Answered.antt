-- What the slots of jobs are before and after the work.
use Rattle.std.proofs.Common.{◌≡◌, ℕ, zero, suc, ◌<◌, List, [], ◌∷◌, map, length, get_or, Option, Some, None, arith, refl, ap, ◌∙◌, subst}
use Rattle.std.proofs.lemmas.List.{get_or-map, length-map}
use Rattle.std.proofs.lemmas.List.Elements.{All-map}
use Rattle.std.specs.Prelude.{All, Result, Ok, Err}
use Rattle.std.specs.declared.alloc.AllocError.{AllocError}
use Rattle.stm_terms.specs.declared.kinds.Ty.{Ty}
use Rattle.stm_terms.specs.declared.values.Value.{Value}
use Rattle.stm_store.specs.Cells.{Covers}
use Rattle.stm_eval.specs.declared.job.Job.{Job}
use Rattle.stm_eval.specs.declared.message.Evaluated.{Evaluated}
use Rattle.stm_eval.specs.CoveredJobs.{AreJobsCovered}
use Rattle.stm_jobs.specs.declared.slot.Slot.{Slot}
use Rattle.stm_eval.specs.JobAnswers.{AnswersJob}
use Rattle.stm_jobs.specs.Answers.{AnswerJobs}
use Rattle.stm_jobs.specs.Slots.{IsWorked, IsDone, IsReady, IsLeft, AreDone, todo, slot_of}

abbrev pub Answer : Type 0
Answer = Result Evaluated (Job × AllocError)

left_done : (job : Job) (cells : List (Ty × Value)) (j : Option Job) (m : Option Evaluated) → IsLeft job cells j m → AreDone j m
left_done job cells None None h = h
left_done job cells None (Some m) h = tt
left_done job cells (Some j) None h = tt
left_done job cells (Some j) (Some m) h = h

left_answer : (job : Job) (cells : List (Ty × Value)) (r : Answer) → IsLeft job cells (slot_of r).job (slot_of r).message → AnswersJob job cells r
left_answer job cells (Ok m) h = h
left_answer job cells (Err e) h = h

job_at : (jobs : List Job) (k : ℕ) → k < length jobs → Job
job_at [] k h = absurd (omega arith)
job_at (j ∷ js) zero h = j
job_at (j ∷ js) (suc k) h = job_at js k (omega arith)

-- what each slot was, one at a time
worked_at : (cells : List (Ty × Value)) (jobs : List Job) (before after : List Slot) → before ≡ map todo jobs
    → ((k : ℕ) (d : Slot) → k < length before → IsWorked cells (get_or before k d) (get_or after k d))
    → (k : ℕ) (d : Job) (e : Slot) → k < length jobs → IsLeft (get_or jobs k d) cells (get_or after k e).job (get_or after k e).message
worked_at cells jobs before after is each k d e h =
    let o : length before ≡ length jobs = ap length is ∙ length-map jobs todo in
    let x : get_or before k e ≡ todo (get_or jobs k d) = ap (λ l. get_or l k e) is ∙ get_or-map todo jobs k d e h in
    subst (λ (s : Slot). IsWorked cells s (get_or after k e)) x (each k e (omega arith))

pub all_done : (cells : List (Ty × Value)) (jobs : List Job) (before after : List Slot) (n : ℕ) → length before ≡ n → before ≡ map todo jobs
    → ((k : ℕ) (d : Slot) → k < n → IsWorked cells (get_or before k d) (get_or after k d))
    → (k : ℕ) (d : Slot) → k < n → IsDone (get_or after k d)
all_done cells jobs before after n len is each k d h =
    let m : length before ≡ length jobs = ap length is ∙ length-map jobs todo in
    let j = job_at jobs k (omega arith) in
    left_done (get_or jobs k j) cells (get_or after k d).job (get_or after k d).message
    (worked_at cells jobs before after is (λ i f l. each i f (omega arith)) k j d (omega arith))

pub answered : (cells : List (Ty × Value)) (jobs : List Job) (before after : List Slot) (answers : List Answer) (n : ℕ)
    → length before ≡ n → before ≡ map todo jobs → after ≡ map slot_of answers → length after ≡ n
    → ((k : ℕ) (d : Slot) → k < n → IsWorked cells (get_or before k d) (get_or after k d))
    → (k : ℕ) (d : Job) (e : Answer) → k < length jobs → AnswersJob (get_or jobs k d) cells (get_or answers k e)
answered cells jobs before after answers n len is are same each k d e h =
    let o : length before ≡ length jobs = ap length is ∙ length-map jobs todo in
    let m : length after ≡ length answers = ap length are ∙ length-map answers slot_of in
    let y : get_or after k (slot_of e) ≡ slot_of (get_or answers k e) = ap (λ l. get_or l k (slot_of e)) are ∙ get_or-map slot_of answers k e (slot_of e) (omega arith) in
    let w = worked_at cells jobs before after is (λ i f l. each i f (omega arith)) k d (slot_of e) h in
    left_answer (get_or jobs k d) cells (get_or answers k e) (subst (λ (s : Slot). IsLeft (get_or jobs k d) cells s.job s.message) y w)

pub as_many : (jobs : List Job) (before after : List Slot) (answers : List Answer) (n : ℕ) → length before ≡ n → before ≡ map todo jobs → after ≡ map slot_of answers → length after ≡ n → length answers ≡ length jobs
as_many jobs before after answers n len is are same =
    let o : length before ≡ length jobs = ap length is ∙ length-map jobs todo in
    let m : length after ≡ length answers = ap length are ∙ length-map answers slot_of in
    omega (arith, o, m, len, same)

-- as many answers as jobs, each of the job at its place
pub each_answers : (cells : List (Ty × Value)) (jobs : List Job) (answers : List Answer) → length answers ≡ length jobs
    → ((k : ℕ) (d : Job) (e : Answer) → k < length jobs → AnswersJob (get_or jobs k d) cells (get_or answers k e)) → AnswerJobs jobs cells answers
each_answers cells [] [] n f = tt
each_answers cells [] (a ∷ rest) n f = absurd (omega arith)
each_answers cells (j ∷ js) [] n f = absurd (omega arith)
each_answers cells (j ∷ js) (a ∷ rest) n f = (f 0 j a (omega arith), each_answers cells js rest (omega arith) (λ k d e h. f (suc k) d e (omega arith)))

all_covered : (cells : List (Ty × Value)) (jobs : List Job) → AreJobsCovered cells jobs → (k : ℕ) (d : Job) → k < length jobs → Covers cells (get_or jobs k d).block.uses
all_covered cells [] h k d l = absurd (omega arith)
all_covered cells (j ∷ js) h zero d l = h.0
all_covered cells (j ∷ js) h (suc k) d l = all_covered cells js h.1 k d (omega arith)

-- jobs that can be evaluated, in slots
pub all_ready : (cells : List (Ty × Value)) (jobs : List Job) → AreJobsCovered cells jobs → All (λ s. IsReady cells s) (map todo jobs)
all_ready cells jobs h = All-map (λ s. IsReady cells s) todo jobs (λ i d l. record { job = all_covered cells jobs h i d l; message = refl })
