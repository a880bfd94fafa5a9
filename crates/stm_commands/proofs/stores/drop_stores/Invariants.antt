use Rattle.std.proofs.Common.{◌≡◌, ◌≤◌, map}
use Rattle.stm_desk.specs.DeskView.{state_of}
use Rattle.stm_commands.specs.OpenInvariant.{job_kept, HaveStores}
use Rattle.stm_commands.proofs.stores.drop_stores.Given as goal

abbrev pub invariant-loop-i : goal.invariant-loop-i
invariant-loop-i l = record {
  same : map job_kept l.jobs ≡ map job_kept l.fn.jobs;
  stored : HaveStores (state_of l.desk).waiters l.jobs;
  few : l.left ≤ l.i;
}
