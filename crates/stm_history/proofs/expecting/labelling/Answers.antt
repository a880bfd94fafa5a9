use Rattle.std.proofs.Common.{◌≡◌, Bool, None, ap, subst}
use Rattle.std.specs.Prelude.{option_map}
use Rattle.stm_events.specs.declared.errors.LabelError.TheVariants.{NoMemory}
use Rattle.stm_events.specs.Refusals.{label_refused}
use Rattle.stm_history.specs.declared.explanation.CallRefusal.TheVariants.{Labelling}
use Rattle.stm_history.proofs.AllowedEvents.{not_refused, refused_for}
use Rattle.stm_history.proofs.DueEvents.{label_due, refused_due}
use Rattle.stm_history.proofs.expecting.labelling.Goals as goal

pub returns-in_ok-label-in-Ok : goal.returns-in_ok-label-in-Ok
returns-in_ok-label-in-Ok c = λ s k.
    let a = c.args in
    let room = c.in-Ok.ensures.room in
    label_due s a.full a.ticket a.label.now c.in_ok-label-in-Ok.label room c.in_ok-label-in-Ok.ensures c.requires
    (subst (λ (full : Bool). label_refused s full a.ticket ≡ None) room (not_refused NoMemory _ _ (c.in-Ok.ensures.refused s k)))

pub returns-in-Err : goal.returns-in-Err
returns-in-Err c = refused_due c.refused_labelling.result _ _ c.refused_labelling.ensures (λ n s k. ap (option_map Labelling) (refused_for _ NoMemory _ _ (c.in-Err.ensures.refused s k) n))
