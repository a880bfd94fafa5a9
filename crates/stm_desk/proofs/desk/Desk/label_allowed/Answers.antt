use Rattle.std.proofs.Common.{◌≡◌, ◌∙◌, ℕ, List, None, false, sym, subst}
use Rattle.stm_events.specs.declared.event.What.TheVariants.{Labelled}
use Rattle.stm_events.specs.Labels.{AreSameLabels, labelled}
use Rattle.stm_events.specs.SlowDesk.{state_from}
use Rattle.stm_machine.specs.Checkpoints.{start_of}
use Rattle.stm_desk.specs.DeskView.{DeskView}
use Rattle.stm_desk.specs.Refusals.{label_refusal}
use Rattle.stm_desk.proofs.Calls.{may_label, kept_move}
use Rattle.stm_desk.proofs.Labels.{label_comes}
use Rattle.stm_desk.proofs.Views.{room_of}
use Rattle.stm_desk.proofs.desk.Desk.label_allowed.Goals as goal

pub label-requires-clause-may : goal.label-requires-clause-may
label-requires-clause-may c =
    let e = subst (λ (d : DeskView). label_refusal d c.args.ticket ≡ None) (sym c.self.view_is) c.requires.allowed in
    let r = room_of c.self.view_is c.requires.room in
    (state_from (start_of c.self.inside.table c.self.inside.checkpoint) c.self.inside.history.items, c.self.invariant.0.at, may_label _ _ _ _ _ c.self.invariant.0 c.args.ticket r e)

pub invariant_of-self-2 : goal.invariant_of-self-2
invariant_of-self-2 c =
    let r = room_of c.self.view_is c.requires.room in
    let same = subst (λ (l : List ℕ). AreSameLabels c.set.new.self (labelled c.args.ticket l c.self.inside.labels)) (c.in_ok-kept.ensures ∙ c.in_ok-shared.ensures) c.in_ok-set.ensures.done in
    rw (c.push_reserved.ensures.items, c.in_ok-reserve.ensures.items, c.in_ok-shared.ensures) (
      kept_move _ _ _ _ _ c.self.invariant.0 c.args.client (Labelled c.args.ticket c.args.label.now) _ c.requires.client r tt c.label.ensures,
      label_comes _ _ _ c.self.invariant.1 c.args.client c.args.ticket c.args.label.now c.set.new.self same c.requires.label,
    )
