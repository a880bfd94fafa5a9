use Rattle.std.proofs.Common.{◌≡◌, Bool, None, refl, ap, subst}
use Rattle.std.specs.Prelude.{option_map}
use Rattle.stm_events.specs.declared.errors.CancelError.TheVariants.{NoMemory}
use Rattle.stm_events.specs.Refusals.{cancel_refused}
use Rattle.stm_history.specs.declared.explanation.CallRefusal.TheVariants.{Cancellation}
use Rattle.stm_history.proofs.AllowedEvents.{not_refused, refused_for}
use Rattle.stm_history.proofs.DueEvents.{refused_due, cancel_allowed}
use Rattle.stm_history.proofs.expecting.cancellation.Goals as goal

pub returns-in-Ok : goal.returns-in-Ok
returns-in-Ok c = λ s k.
    let room = c.in-Ok.ensures.room in
    (room, refl, cancel_allowed s c.args.ticket (subst (λ (full : Bool). cancel_refused s full c.args.ticket ≡ None) room (not_refused NoMemory _ _ (c.in-Ok.ensures.refused s k))))

pub returns-in-Err : goal.returns-in-Err
returns-in-Err c = refused_due c.refused_cancellation.result _ _ c.refused_cancellation.ensures (λ n s k. ap (option_map Cancellation) (refused_for _ NoMemory _ _ (c.in-Err.ensures.refused s k) n))
