use Rattle.std.proofs.Common.{◌≡◌, ℕ, None, false, refl, sym, subst}
use Rattle.stm_events.specs.declared.errors.SubmitError.TheVariants.{NoMemory}
use Rattle.stm_events.specs.declared.event.What.TheVariants.{Submitted}
use Rattle.stm_events.specs.SlowDesk.{state_from}
use Rattle.stm_machine.specs.Checkpoints.{start_of}
use Rattle.stm_desk.specs.DeskView.{DeskView}
use Rattle.stm_desk.specs.Refusals.{submit_refusal}
use Rattle.stm_terms.proofs.Refused.{accepted}
use Rattle.stm_desk.proofs.Calls.{refused_alike, ticket_left, may_submit, kept_move}
use Rattle.stm_desk.proofs.Labels.{labels_stay}
use Rattle.stm_desk.proofs.Views.{room_of}
use Rattle.stm_desk.proofs.desk.Desk.submit.Goals as goal

pub submit-requires : goal.submit-requires
submit-requires c =
    let e = subst (λ (d : DeskView). submit_refusal d c.args.block ≡ None) (sym c.self.view_is) (accepted NoMemory (submit_refusal c.args.self.now c.args.block) _ c.in-Ok.ensures.refused) in
    let r = room_of c.self.view_is c.in-Ok.ensures.room in
    (state_from (start_of c.self.inside.table c.self.inside.checkpoint) c.self.inside.history.items, c.self.invariant.0.at, ticket_left _ _ _ _ _ c.self.invariant.0 r, may_submit _ _ _ _ _ c.self.invariant.0 c.args.block r e)

pub invariant_of-self-2 : goal.invariant_of-self-2
invariant_of-self-2 c =
    let r = room_of c.self.view_is c.in-Ok.ensures.room in
    rw (c.push_reserved.ensures.items, c.in_ok-reserve.ensures.items, c.in_ok-shared.ensures) (
      kept_move _ _ _ _ _ c.self.invariant.0 c.args.client _ _ c.requires r c.say_typed.ensures c.in_ok-ticket.ensures.done,
      labels_stay _ _ _ c.self.invariant.1 c.args.client (Submitted c.in_ok-ticket.ticket c.args.block) refl,
    )

pub returns-in-Err-clause-refused : goal.returns-in-Err-clause-refused
returns-in-Err-clause-refused c = refused_alike (Unit {0}) ℕ NoMemory (submit_refusal c.args.self.now c.args.block) c.in-Err.refusal c.in-Err.ensures.refused
