use Rattle.std.proofs.Common.{refl, sym, ap, subst}
use Rattle.std.specs.Prelude.{option_map}
use Rattle.stm_events.specs.declared.errors.FinishError.TheVariants.{NoMemory}
use Rattle.stm_events.specs.declared.event.What.{What}
use Rattle.stm_events.specs.declared.event.What.TheVariants.{Finished}
use Rattle.stm_history.specs.declared.explanation.CallRefusal.TheVariants.{Finish}
use Rattle.stm_history.specs.declared.expecting.Expectation.TheVariants.{Due}
use Rattle.stm_history.specs.Expecting.{IsDueOn}
use Rattle.stm_history.proofs.AllowedEvents.{refused_for, plan_allowed}
use Rattle.stm_history.proofs.DueEvents.{refused_due}
use Rattle.stm_history.proofs.expecting.finish.Goals as goal

pub returns-in-Ok : goal.returns-in-Ok
returns-in-Ok c = λ s v n l k.
    subst (λ (what : What). IsDueOn s c.args.full (Finished c.args.ticket v n l) (Due what)) (sym c.finish_of.ensures)
    (c.in-Ok.ensures.room, refl, plan_allowed s c.args.ticket _ _ _ (c.in-Ok.ensures.plan s k))

pub returns-in-Err : goal.returns-in-Err
returns-in-Err c = refused_due c.refused_finish.result _ _ c.refused_finish.ensures (λ no s v n l k. ap (option_map Finish) (refused_for _ NoMemory _ _ (c.in-Err.ensures.refused s k) no))
