use Rattle.std.proofs.Common.{◌≡◌, ◌∙◌, ◌≤◌, ◌++◌, ◌∷◌, [], ℕ, List, Some, None, take, sym, ap, arith}
use Rattle.std.specs.Prelude.{slice_get}
use Rattle.std.proofs.lemmas.List.{map-append}
use Rattle.stm_eval.specs.declared.job.Job.{Job}
use Rattle.stm_queue.specs.Queue.{queued}
use Rattle.stm_queue.proofs.Membership.{in_queue}
use Rattle.stm_machine.proofs.JobsHandedOut.{take_more, take_past, kept_job-push}
use Rattle.stm_machine.proofs.queue.jobs_of.Goals as goal

pub job_of-requires : goal.job_of-requires
job_of-requires c =
    let g : slice_get (queued c.args.pending.now.entries) c.loop-i.i ≡ Some c.in-Some.ticket = sym c.queued_at.ensures ∙ c.in-Some.is in
    c.requires c.in-Some.ticket (in_queue c.in-Some.ticket c.loop-i.i c.args.pending.now.entries g)

pub returns-in-None-clause-tickets : goal.returns-in-None-clause-tickets
returns-in-None-clause-tickets c =
    let g : slice_get (queued c.args.pending.now.entries) c.loop-i.i ≡ None = sym c.queued_at.ensures ∙ c.in-None.is in
    let l : c.loop-i.i ≤ c.args.n = omega (arith, c.loop-i-test.true) in
    c.loop-i.invariant.tickets ∙ take_past (queued c.args.pending.now.entries) c.loop-i.i c.args.n g l

pub loop-i-preserved : goal.loop-i-preserved
loop-i-preserved c =
    let g : slice_get (queued c.args.pending.now.entries) c.loop-i.i ≡ Some c.in-Some.ticket = sym c.queued_at.ensures ∙ c.in-Some.is in
    rw c.in_ok-push-in-Some.ensures.items (record {
      tickets =
          map-append (λ (j : Job). j.ticket) c.loop-i.jobs.items (c.in_ok-job-in-Some.job ∷ [])
          ∙ ap (λ (ts : List ℕ). ts ++ c.in_ok-job-in-Some.job.ticket ∷ []) c.loop-i.invariant.tickets
          ∙ ap (λ (t : ℕ). take c.loop-i.i (queued c.args.pending.now.entries) ++ t ∷ []) c.in_ok-job-in-Some.ensures.ticket
          ∙ sym (take_more (queued c.args.pending.now.entries) c.loop-i.i c.in-Some.ticket g);
      blocks = kept_job-push c.args.waiting.now c.loop-i.jobs.items c.in_ok-job-in-Some.job c.loop-i.invariant.blocks c.in_ok-job-in-Some.ensures.block;
    })
