use Rattle.stm_events.specs.declared.errors.CancelError.TheVariants.{NoMemory}
use Rattle.stm_history.proofs.AllowedIsNotRefused.{cancel_not_refused}
use Rattle.stm_history.proofs.AllowedEvents.{only_memory, not_refused}
use Rattle.stm_history.proofs.stepping.cancelled.Goals as goal

pub cancel-requires : goal.cancel-requires
cancel-requires c =
    let here = c.requires in
    (here.0, here.1, not_refused NoMemory _ _ (c.in-Ok.ensures.refused here.0 here.1))

pub returns-in-Err-clause-not_allowed : goal.returns-in-Err-clause-not_allowed
returns-in-Err-clause-not_allowed c = λ n s k a.
    let memory = c.cancel_refused.ensures (only_memory _ NoMemory _ _ (cancel_not_refused s c.args.ticket a) (c.in-Err.ensures.refused s k)) in
    cc
