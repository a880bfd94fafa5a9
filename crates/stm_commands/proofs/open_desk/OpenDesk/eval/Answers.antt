use Rattle.std.proofs.Common.{map, string_bytes}
use Rattle.stm_commands.specs.OpenInvariant.{job_kept}
use Rattle.stm_commands.proofs.DeskSteps.{eval_made}
use Rattle.stm_commands.proofs.Growing.{kept_grown}
use Rattle.stm_commands.proofs.open_desk.OpenDesk.eval.Goals as goal

pub invariant_of-self : goal.invariant_of-self
invariant_of-self g c = kept_grown _ _ _ _ c.evaluate_queued.ensures.grown c.evaluate_queued.ensures.same c.self.invariant

pub invariant_of-self-2 : goal.invariant_of-self-2
invariant_of-self-2 g c = kept_grown _ _ _ _ c.evaluate_queued.ensures.grown c.evaluate_queued.ensures.same c.self.invariant

pub returns : goal.returns
returns g c =
    eval_made c.self.inside.desk c.evaluate_queued.new.desk (map job_kept c.self.inside.jobs.items) c.args.self.now c.in_ok-progress.progress (string_bytes c.args.out.now) (string_bytes c.write_evaluation.new.out)
    c.write_evaluation.result c.self.view_is c.in_ok-progress.ensures.done c.write_evaluation.ensures
