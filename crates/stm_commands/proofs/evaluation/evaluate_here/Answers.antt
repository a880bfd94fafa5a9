use Rattle.std.proofs.Common.{refl, sym}
use Rattle.stm_commands.proofs.EvaluatedHere.{evaluated_here, evaluated_grown}
use Rattle.stm_commands.proofs.evaluation.evaluate_here.Goals as goal

pub returns-in-Ok-clause-done : goal.returns-in-Ok-clause-done
returns-in-Ok-clause-done c = evaluated_here c.args.desk.now _ _ 65536 _ refl c.in-Ok.ensures.done c.history-events.ensures.queue c.history-events.ensures.rising c.history-events.ensures.verdicts

pub returns-in-Ok-clause-grown : goal.returns-in-Ok-clause-grown
returns-in-Ok-clause-grown c = evaluated_grown c.args.desk.now 65536 _ c.in-Ok.ensures.done c.history-after.ensures.start c.history-after.ensures.legal

pub returns-in-Err-clause-grown : goal.returns-in-Err-clause-grown
returns-in-Err-clause-grown c = evaluated_grown c.args.desk.now _ _ (sym c.in-Err.ensures.left.done) c.history-after.ensures.start c.history-after.ensures.legal
