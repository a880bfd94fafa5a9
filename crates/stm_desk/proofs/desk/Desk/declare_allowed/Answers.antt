use Rattle.std.proofs.Common.{◌≡◌, None, false, refl, sym, subst}
use Rattle.stm_events.specs.declared.event.What.TheVariants.{Declared as DeclaredLate}
use Rattle.stm_events.specs.SlowDesk.{state_from}
use Rattle.stm_machine.specs.Checkpoints.{start_of}
use Rattle.stm_desk.specs.DeskView.{DeskView}
use Rattle.stm_desk.specs.Refusals.{late_declare_refusal}
use Rattle.stm_desk.proofs.Calls.{may_declare, kept_move}
use Rattle.stm_desk.proofs.Labels.{labels_stay}
use Rattle.stm_desk.proofs.Views.{room_of}
use Rattle.stm_desk.proofs.desk.Desk.declare_allowed.Goals as goal

pub declare-requires-clause-may : goal.declare-requires-clause-may
declare-requires-clause-may c =
    let e = subst (λ (d : DeskView). late_declare_refusal d c.args.name.now c.args.kind c.args.value ≡ None) (sym c.self.view_is) c.requires.allowed in
    let r = room_of c.self.view_is c.requires.room in
    (state_from (start_of c.self.inside.table c.self.inside.checkpoint) c.self.inside.history.items, c.self.invariant.0.at, may_declare _ _ _ _ _ c.self.invariant.0 c.args.name.now c.args.kind c.args.value r e)

pub invariant_of-self-2 : goal.invariant_of-self-2
invariant_of-self-2 c =
    let r = room_of c.self.view_is c.requires.room in
    rw (c.push_reserved.ensures.items, c.in_ok-reserve.ensures.items, c.in_ok-shared.ensures) (
      kept_move _ _ _ _ _ c.self.invariant.0 c.args.client (DeclaredLate c.args.name.now c.args.kind c.args.value) _ c.requires.client r tt c.in_ok-number.ensures.done,
      labels_stay _ _ _ c.self.invariant.1 c.args.client (DeclaredLate c.args.name.now c.args.kind c.args.value) refl,
    )
