use Rattle.std.proofs.Common.{◌≡◌, List, ℕ, Bool, None, sym, ap, subst, ◌∙◌}
use Rattle.std.specs.Prelude.{option_map}
use Rattle.stm_events.specs.declared.errors.LateDeclareError.TheVariants.{NoMemory}
use Rattle.stm_events.specs.Refusals.{late_declare_refused}
use Rattle.stm_history.specs.declared.explanation.CallRefusal.TheVariants.{Declaration}
use Rattle.stm_history.proofs.AllowedEvents.{not_refused, refused_for}
use Rattle.stm_history.proofs.DueEvents.{declare_due, refused_due}
use Rattle.stm_history.proofs.expecting.declaration.Goals as goal

pub returns-in_ok-name-in-Ok : goal.returns-in_ok-name-in-Ok
returns-in_ok-name-in-Ok c = λ s k.
    let a = c.args in
    let room = c.in-Ok.ensures.room in
    declare_due s a.full a.name.now c.in_ok-name-in-Ok.name a.kind a.value room c.in_ok-name-in-Ok.ensures c.requires
    (subst (λ (full : Bool). late_declare_refused s full a.name.now a.kind a.value ≡ None) room
    (ap (λ (name : List ℕ). late_declare_refused s a.full name a.kind a.value) (sym c.as_str.ensures) ∙ not_refused NoMemory _ _ (c.in-Ok.ensures.refused s k)))

pub returns-in-Err : goal.returns-in-Err
returns-in-Err c =
    let a = c.args in
    refused_due c.refused_declaration.result _ _ c.refused_declaration.ensures
    (λ no s k.
    ap (option_map Declaration)
    (ap (λ (name : List ℕ). late_declare_refused s a.full name a.kind a.value) (sym c.as_str.ensures) ∙ refused_for _ NoMemory _ _ (c.in-Err.ensures.refused s k) no))
