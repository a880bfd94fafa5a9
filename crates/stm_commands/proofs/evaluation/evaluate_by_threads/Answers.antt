use Rattle.stm_commands.proofs.Deliveries.{evaluated_all, given_queued}
use Rattle.stm_commands.proofs.LegalDesks.{desk_possible}
use Rattle.stm_commands.proofs.evaluation.evaluate_by_threads.Goals as goal

pub evaluate_jobs-requires-clause-stand : goal.evaluate_jobs-requires-clause-stand
evaluate_jobs-requires-clause-stand g c = λ κs lives. given_queued c.args.desk.now _ _ _ (desk_possible c.args.desk.now c.requires.start c.requires.legal) c.in-Ok.ensures.taken.out c.in-Ok.ensures.taken.blocks c.in-Ok.ensures.taken.covered

pub returns-in-Ok-clause-done : goal.returns-in-Ok-clause-done
returns-in-Ok-clause-done g c =
    evaluated_all c.args.desk.now _ _ _ _ c.evaluate_jobs.result c.in-Ok.ensures.taken.out c.in-Ok.ensures.taken.tickets c.in-Ok.ensures.taken.store c.in-Ok.ensures.taken.blocks c.evaluate_jobs.ensures.done
