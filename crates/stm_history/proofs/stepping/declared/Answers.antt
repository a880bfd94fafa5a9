use Rattle.stm_events.specs.declared.errors.LateDeclareError.TheVariants.{NoMemory}
use Rattle.stm_history.proofs.AllowedIsNotRefused.{declare_not_refused}
use Rattle.stm_history.proofs.AllowedEvents.{only_memory, not_refused}
use Rattle.stm_history.proofs.stepping.declared.Goals as goal

pub declare-requires-clause-may : goal.declare-requires-clause-may
declare-requires-clause-may c =
    let here = c.requires in
    (here.0, here.1, not_refused NoMemory _ _ (c.in-Ok.ensures.refused here.0 here.1))

pub returns-in-Err-clause-not_allowed : goal.returns-in-Err-clause-not_allowed
returns-in-Err-clause-not_allowed c = λ n s k a.
    let memory = c.declare_refused.ensures (only_memory _ NoMemory _ _ (declare_not_refused s c.args.name.now c.args.kind c.args.value a) (c.in-Err.ensures.refused s k)) in
    cc
