use Rattle.std.proofs.Common.{◌≡◌, List, [], ◌∷◌, ◌++◌, None, false, refl, rules, sym, subst}
use Rattle.stm_events.specs.declared.errors.CancelError.TheVariants.{NoMemory}
use Rattle.stm_events.specs.declared.event.Event.{Event}
use Rattle.stm_events.specs.declared.event.What.TheVariants.{Cancelled}
use Rattle.stm_events.specs.SlowDesk.{state_from}
use Rattle.stm_machine.specs.Checkpoints.{start_of}
use Rattle.stm_machine.specs.Machine.{event}
use Rattle.stm_desk.specs.Kept.{DeskInvariant, HasLabels}
use Rattle.stm_desk.specs.DeskView.{DeskView}
use Rattle.stm_desk.specs.Refusals.{cancel_refusal}
use Rattle.stm_terms.proofs.Refused.{accepted}
use Rattle.stm_desk.proofs.Calls.{may_cancel, kept_move}
use Rattle.stm_desk.proofs.Labels.{label_goes}
use Rattle.stm_desk.proofs.Views.{room_of}
use Rattle.stm_desk.proofs.desk.Desk.cancel.Goals as goal

pub cancel-requires : goal.cancel-requires
cancel-requires c =
    let e = subst (λ (d : DeskView). cancel_refusal d c.args.ticket ≡ None) (sym c.self.view_is) (accepted NoMemory (cancel_refusal c.args.self.now c.args.ticket) _ c.in-Ok.ensures.refused) in
    let r = room_of c.self.view_is c.in-Ok.ensures.room in
    (state_from (start_of c.self.inside.table c.self.inside.checkpoint) c.self.inside.history.items, c.self.invariant.0.at, may_cancel _ _ _ _ _ c.self.invariant.0 c.args.ticket r e)

pub invariant_of-self-2 : goal.invariant_of-self-2
invariant_of-self-2 c =
    let r = room_of c.self.view_is c.in-Ok.ensures.room in
    let is : c.push_reserved.new.self.items ≡ c.self.inside.history.items ++ event c.args.client (Cancelled c.args.ticket) ∷ [] = search rules in
    subst (λ (es : List Event). DeskInvariant c.self.inside.table c.self.inside.checkpoint c.self.inside.limit es c.cancel.new.self × HasLabels c.self.inside.checkpoint es c.remove.new.self) (sym is) (
      kept_move _ _ _ _ _ c.self.invariant.0 c.args.client (Cancelled c.args.ticket) c.cancel.new.self c.requires r tt c.cancel.ensures.done,
      label_goes _ _ _ c.self.invariant.1 c.args.client (Cancelled c.args.ticket) c.args.ticket c.remove.new.self c.remove.ensures refl,
    )
