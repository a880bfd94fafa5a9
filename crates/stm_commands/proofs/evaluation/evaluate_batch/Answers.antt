use Rattle.stm_commands.proofs.EvaluatedJobs.{own_answers}
use Rattle.stm_commands.proofs.evaluation.evaluate_batch.Goals as goal

pub returns-in-Ok-clause-done : goal.returns-in-Ok-clause-done
returns-in-Ok-clause-done g c = c.deliver_answers.ensures.done c.args.store.now c.args.jobs.items c.in-Ok.ensures.each c.requires.stand

pub deliver_answers-requires-clause-own : goal.deliver_answers-requires-clause-own
deliver_answers-requires-clause-own g c =
    own_answers c.args.desk.now c.args.store.now c.args.jobs.items c.in-Ok.answers.items c.requires.stand c.in-Ok.ensures.each
