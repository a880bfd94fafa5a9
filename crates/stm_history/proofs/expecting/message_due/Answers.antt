use Rattle.std.proofs.Common.{Bool, IfOk, sym, ap, subst}
use Rattle.std.specs.Prelude.{option_map}
use Rattle.stm_terms.specs.declared.verdicts.Verdict.{Verdict}
use Rattle.stm_eval.specs.EvaluatedFields.{message_ticket}
use Rattle.stm_events.specs.declared.event.What.TheVariants.{Installed}
use Rattle.stm_events.specs.SlowDesk.{Slow}
use Rattle.stm_machine.specs.Machine.{IsAt}
use Rattle.stm_history.specs.declared.explanation.CallRefusal.TheVariants.{Delivery}
use Rattle.stm_history.specs.Expecting.{IsDueOn}
use Rattle.stm_history.proofs.DueEvents.{refused_due, deliver_always}
use Rattle.stm_history.proofs.expecting.message_due.Goals as goal

pub deliver-requires : goal.deliver-requires
deliver-requires c = let here = c.requires.at in (here.0, here.1, c.in-Ok.ensures.allowed here.0 here.1)

pub returns-in-Ok : goal.returns-in-Ok
returns-in-Ok c =
    subst (λ (full : Bool). IfOk c.deliver.result (λ x. (s : Slow) (v : Verdict) → IsAt c.args.machine.now s → IsDueOn s full (Installed (message_ticket c.args.message) v) x)) (sym c.in-Ok.ensures.room) c.deliver.ensures

pub returns-in-Err : goal.returns-in-Err
returns-in-Err c =
    refused_due c.refused_delivery.result _ _ c.refused_delivery.ensures
    (λ n s v k. ap (option_map Delivery) (deliver_always _ s c.args.full c.args.message _ (c.requires.present s k) (c.in-Err.ensures.refused s k) n))
