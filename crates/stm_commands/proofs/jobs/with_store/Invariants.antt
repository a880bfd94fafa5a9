use Rattle.std.proofs.Common.{◌≡◌, ◌++◌, map}
use Rattle.stm_commands.specs.OpenInvariant.{handed_out, job_kept, AreStored}
use Rattle.stm_commands.proofs.jobs.with_store.Given as goal

abbrev pub invariant-loop-job : goal.invariant-loop-job
invariant-loop-job l = record {
  kept : map job_kept l.made.items ++ map (handed_out l.store) l.job-iterator.rest.items ≡ map (handed_out l.store) l.fn.jobs.items;
  stored : AreStored l.made.items;
}
