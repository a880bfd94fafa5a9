use Rattle.stm_events.specs.declared.errors.FinishError.TheVariants.{NoMemory}
use Rattle.stm_history.proofs.AllowedIsNotRefused.{finish_not_refused}
use Rattle.stm_history.proofs.AllowedEvents.{only_memory}
use Rattle.stm_history.proofs.stepping.finished.Goals as goal

pub returns-in-Err-clause-not_allowed : goal.returns-in-Err-clause-not_allowed
returns-in-Err-clause-not_allowed c = λ n s k a.
    let none = finish_not_refused s c.args.ticket c.args.verdict.now c.args.first_new c.args.stale.now a in
    let memory = c.finish_refused.ensures (only_memory _ NoMemory _ _ none (c.in-Err.ensures.refused s k)) in
    cc
