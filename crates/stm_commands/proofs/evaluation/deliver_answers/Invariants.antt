use Rattle.std.proofs.Common.{◌≡◌, ◌≤◌, ◌+◌, List, map, length}
use Rattle.stm_terms.specs.declared.kinds.Ty.{Ty}
use Rattle.stm_terms.specs.declared.values.Value.{Value}
use Rattle.stm_eval.specs.declared.job.Job.{Job}
use Rattle.stm_jobs.specs.Answers.{AnswerJobs}
use Rattle.stm_desk.specs.DeskView.{state_of}
use Rattle.stm_commands.specs.Evaluation.{delivered_all}
use Rattle.stm_commands.specs.OpenInvariant.{handed_out, JobsStand, HasGrown, OwnTheirTickets}
use Rattle.stm_commands.proofs.EvaluatedJobs.{IsLeft}
use Rattle.stm_commands.proofs.evaluation.deliver_answers.Given as goal

abbrev pub invariant-loop-answer : goal.invariant-loop-answer
invariant-loop-answer l = record {
  left : (cells : List (Ty × Value)) (jobs : List Job) → AnswerJobs jobs cells l.fn.answers.items → JobsStand l.fn.desk (map (handed_out cells) jobs)
      → IsLeft cells (record { desk = l.desk; count = l.so_far.count; stop = l.so_far.stop })
      (delivered_all (record { desk = l.fn.desk; count = l.fn.before.count; stop = l.fn.before.stop }) (map (handed_out cells) jobs)) l.answer-iterator.rest.items;
  own : OwnTheirTickets (state_of l.desk) l.answer-iterator.rest.items;
  grown : HasGrown l.fn.desk l.desk;
  same_store : (state_of l.desk).store ≡ (state_of l.fn.desk).store;
  few : l.so_far.count + length l.answer-iterator.rest.items ≤ l.fn.before.count + length l.fn.answers.items;
}
