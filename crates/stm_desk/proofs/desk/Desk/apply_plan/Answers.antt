use Rattle.std.proofs.Common.{refl, sym, subst}
use Rattle.stm_events.specs.declared.event.What.TheVariants.{Finished}
use Rattle.stm_events.specs.SlowDesk.{state_from}
use Rattle.stm_machine.specs.Checkpoints.{start_of}
use Rattle.stm_machine.specs.Plans.{IsPlan}
use Rattle.stm_desk.specs.DeskView.{DeskView, state_of}
use Rattle.stm_desk.proofs.Calls.{kept_move}
use Rattle.stm_desk.proofs.Labels.{label_goes}
use Rattle.stm_desk.proofs.Views.{room_of}
use Rattle.stm_desk.proofs.desk.Desk.apply_plan.Goals as goal

pub finish_parts-requires-clause-plan : goal.finish_parts-requires-clause-plan
finish_parts-requires-clause-plan c =
    let p = c.args.plan.now in
    let plan = subst (λ (d : DeskView). IsPlan (state_of d) c.args.ticket p.verdict p.first_new p.stale) (sym c.self.view_is) c.requires.plan in
    (state_from (start_of c.self.inside.table c.self.inside.checkpoint) c.self.inside.history.items, c.self.invariant.0.at, plan)

pub invariant_of-self-2 : goal.invariant_of-self-2
invariant_of-self-2 c =
    let p = c.args.plan.now in
    let r = room_of c.self.view_is c.requires.room in
    rw (c.in_ok-applied.ensures.history, c.in_ok-event.ensures.event, c.in_ok-event.ensures.items) (
      kept_move _ _ _ _ _ c.self.invariant.0 c.args.client (Finished c.args.ticket p.verdict p.first_new p.stale) c.finish_parts.new.machine c.requires.client r tt c.in_ok-applied.ensures.moved,
      label_goes _ _ _ c.self.invariant.1 c.args.client (Finished c.args.ticket p.verdict p.first_new p.stale) c.args.ticket c.finish_parts.new.labels c.in_ok-applied.ensures.labels refl,
    )
