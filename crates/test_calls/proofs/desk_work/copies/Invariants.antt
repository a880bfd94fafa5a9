use Rattle.stm_eval.specs.CoveredJobs.{AreJobsCovered}
use Rattle.test_calls.proofs.desk_work.copies.Given as goal

abbrev pub invariant-loop-job : goal.invariant-loop-job
invariant-loop-job l = AreJobsCovered l.frozen l.copied.items
