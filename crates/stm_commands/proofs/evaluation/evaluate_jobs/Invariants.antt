use Rattle.std.proofs.Common.{◌≡◌, ◌≤◌, ◌+◌, ◌++◌, None, map, length}
use Rattle.stm_desk.specs.DeskView.{state_of}
use Rattle.stm_commands.specs.Evaluation.{delivered_all}
use Rattle.stm_commands.specs.OpenInvariant.{handed_out, HasGrown}
use Rattle.stm_commands.proofs.EvaluatedJobs.{AreLeft}
use Rattle.stm_commands.proofs.evaluation.evaluate_jobs.Given as goal

abbrev pub invariant-loop-job : goal.invariant-loop-job
invariant-loop-job g l = record {
  left : AreLeft l.fn.store (record { desk = l.desk; count = l.so_far.count; stop = l.so_far.stop })
      (delivered_all (record { desk = l.fn.desk; count = 0; stop = None }) (map (handed_out l.fn.store) l.fn.jobs.items)) (l.batch.items ++ l.job-iterator.rest.items);
  grown : HasGrown l.fn.desk l.desk;
  same_store : (state_of l.desk).store ≡ (state_of l.fn.desk).store;
  few : l.so_far.count + length (l.batch.items ++ l.job-iterator.rest.items) ≤ length l.fn.jobs.items;
}
