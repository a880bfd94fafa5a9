use Rattle.stm_events.specs.declared.errors.LabelError.TheVariants.{NoMemory}
use Rattle.stm_history.proofs.AllowedIsNotRefused.{label_not_refused}
use Rattle.stm_history.proofs.AllowedEvents.{only_memory, not_refused}
use Rattle.stm_history.proofs.stepping.labelled.Goals as goal

pub label-requires-clause-may : goal.label-requires-clause-may
label-requires-clause-may c =
    let here = c.requires in
    (here.0, here.1, not_refused NoMemory _ _ (c.in-Ok.ensures.refused here.0 here.1))

pub returns-in-Err-clause-not_allowed : goal.returns-in-Err-clause-not_allowed
returns-in-Err-clause-not_allowed c = λ n s k a.
    let memory = c.label_refused.ensures (only_memory _ NoMemory _ _ (label_not_refused s c.args.ticket c.args.label.now a) (c.in-Err.ensures.refused s k)) in
    cc
