use Rattle.std.proofs.Common.{List, map, sym, subst}
use Rattle.stm_commands.specs.declared.jobs.KeptJob.{KeptJob}
use Rattle.stm_commands.specs.OpenInvariant.{job_kept, JobsStand}
use Rattle.stm_commands.proofs.Deliveries.{stands_at}
use Rattle.stm_commands.proofs.Growing.{kept_grown}
use Rattle.stm_commands.proofs.open_desk.OpenDesk.deliver.Goals as goal

pub deliver_kept-requires-clause-stands : goal.deliver_kept-requires-clause-stands
deliver_kept-requires-clause-stands c =
    stands_at c.self.inside.desk (map job_kept c.deref.result.now) c.args.number (job_kept c.in-Some.kept.now)
    (subst (λ (ks : List KeptJob). JobsStand c.self.inside.desk (map job_kept ks)) (sym c.deref.ensures.value) c.self.invariant.jobs_stand) c.in-Some.ensures.kept

pub invariant_of-self : goal.invariant_of-self
invariant_of-self c = kept_grown _ _ _ _ c.deliver_kept.ensures.grown c.deliver_kept.ensures.store c.self.invariant
