use Rattle.std.proofs.Common.{◌≡◌, [], rules}
use Rattle.stm_pool.proofs.OneJob.{job_taken, no_job_taken}
use Rattle.stm_pool.proofs.guarded.Guarded.take.Goals as goal

pub returns-in-Some-clause-taken : goal.returns-in-Some-clause-taken
returns-in-Some-clause-taken g c =
    job_taken c.args.self.now.desk _ _ c.in_ok-store.jobs.items c.pop.new.self.items c.in-Some.job c.in_ok-store.ensures.taken c.in-Some.ensures.items

pub returns-in-None-clause-taken : goal.returns-in-None-clause-taken
returns-in-None-clause-taken g c =
    let none : c.in_ok-store.jobs.items ≡ [] = search rules in
    no_job_taken c.args.self.now.desk _ _ c.in_ok-store.jobs.items c.in_ok-store.ensures.taken none
