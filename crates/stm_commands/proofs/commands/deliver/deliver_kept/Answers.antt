use Rattle.std.proofs.Common.{◌≡◌, List, Option, ap, sym, subst, ◌∙◌}
use Rattle.stm_terms.specs.declared.kinds.Ty.{Ty}
use Rattle.stm_terms.specs.declared.values.Value.{Value}
use Rattle.stm_desk.specs.DeskView.{state_of}
use Rattle.stm_events.specs.declared.errors.DeliverError.{DeliverError}
use Rattle.stm_commands.specs.Jobs.{delivery_step}
use Rattle.stm_commands.specs.OpenInvariant.{handed_out, job_kept, JobStands}
use Rattle.stm_commands.proofs.DeskSteps.{delivered_job}
use Rattle.stm_commands.proofs.KeptStores.{copied_job, store_of}
use Rattle.stm_commands.proofs.commands.deliver.deliver_kept.Goals as goal

pub deliver_job-requires-clause-stands : goal.deliver_job-requires-clause-stands
deliver_job-requires-clause-stands c =
    let same = store_of (state_of c.args.desk.now).waiters c.args.kept.now c.in-Some-store.store c.requires.stored (sym c.in_default.ensures) c.in-Some-store.is in
    subst (λ (cells : List (Ty × Value)). JobStands c.args.desk.now (handed_out cells c.in_ok-job-in-Some-store.job)) same
    (subst (JobStands c.args.desk.now) (sym (copied_job c.args.kept.now c.in_ok-job-in-Some-store.job c.in_ok-job-in-Some-store.ensures)) c.requires.stands)

pub returns-in-None-2-clause-step : goal.returns-in-None-2-clause-step
returns-in-None-2-clause-step c =
    let d = c.args.desk.now in
    let k = job_kept c.args.kept.now in
    let cells = store_of (state_of d).waiters c.args.kept.now c.in-Some-store.store c.requires.stored (sym c.in_default.ensures) c.in-Some-store.is in
    let same : handed_out c.in-Some-store.store c.in_ok-job-in-Some-store.job ≡ k = ap (λ (x : List (Ty × Value)). handed_out x c.in_ok-job-in-Some-store.job) (sym cells) ∙ copied_job c.args.kept.now c.in_ok-job-in-Some-store.job c.in_ok-job-in-Some-store.ensures in
    let o = c.in_ok-deliver_job-in-Some-store in
    delivered_job d _ _ k o.field-0 _ _ _ c.write_delivered.result same o.ensures.refused o.ensures.done (ap (λ (u : Option DeliverError). (delivery_step d k u).1) c.in-None-2.is) c.write_delivered.ensures

pub returns-in-Some-2-clause-step : goal.returns-in-Some-2-clause-step
returns-in-Some-2-clause-step c =
    let d = c.args.desk.now in
    let k = job_kept c.args.kept.now in
    let cells = store_of (state_of d).waiters c.args.kept.now c.in-Some-store.store c.requires.stored (sym c.in_default.ensures) c.in-Some-store.is in
    let same : handed_out c.in-Some-store.store c.in_ok-job-in-Some-store.job ≡ k = ap (λ (x : List (Ty × Value)). handed_out x c.in_ok-job-in-Some-store.job) (sym cells) ∙ copied_job c.args.kept.now c.in_ok-job-in-Some-store.job c.in_ok-job-in-Some-store.ensures in
    let o = c.in_ok-deliver_job-in-Some-store in
    delivered_job d _ _ k o.field-0 _ _ _ c.refuse_delivery-in-Some-2.result same o.ensures.refused o.ensures.done (ap (λ (u : Option DeliverError). (delivery_step d k u).1) c.in-Some-2.is) c.refuse_delivery-in-Some-2.ensures.text
