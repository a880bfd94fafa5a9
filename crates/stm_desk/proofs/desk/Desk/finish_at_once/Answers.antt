use Rattle.std.proofs.Common.{◌≡◌, ◌∙◌, ℕ, List, None, Some, [], ◌∷◌, false, length, refl, sym, ap, subst, arith}
use Rattle.stm_store.specs.declared.cell.Cell.{Cell}
use Rattle.stm_store.specs.Cells.{applied_answer}
use Rattle.stm_events.specs.declared.event.What.TheVariants.{Submitted, Installed, Finished}
use Rattle.stm_events.specs.Labels.{AreSameLabels, without_label}
use Rattle.stm_events.specs.Refusals.{submit_refused}
use Rattle.stm_events.specs.SlowAtomically.{atomically}
use Rattle.stm_events.specs.SlowDesk.{verdict_on}
use Rattle.stm_desk.specs.DeskView.{DeskView, state_of}
use Rattle.stm_desk.specs.Settling.{with_whats}
use Rattle.stm_desk.proofs.Atomically.{kept_moves, three_more, has_room, is_planned, ended_whats, ended, not_full}
use Rattle.stm_desk.proofs.Calls.{ticket_left}
use Rattle.stm_desk.proofs.Labels.{label_goes_at_once}
use Rattle.stm_desk.proofs.Views.{view_of, room_for}
use Rattle.stm_desk.proofs.desk.Desk.finish_at_once.Goals as goal

pub run-requires : goal.run-requires
run-requires c =
    let s = state_of (view_of c.self.inside) in
    let r = room_for 3 c.self.view_is c.requires.room in
    let p = is_planned c.self.inside.machine {d = view_of c.self.inside} c.self.invariant.0.at c.self.view_is c.in_ok-plan.ensures.plan c.in_ok-plan.ensures.verdict c.requires.fits c.requires.ends c.requires.cells in
    (s, c.self.invariant.0.at, ticket_left _ _ _ _ _ c.self.invariant.0 (not_full _ _ 3 r (omega arith)), p)

pub invariant_of-self-2 : goal.invariant_of-self-2
invariant_of-self-2 c =
    let s = state_of (view_of c.self.inside) in
    let e = subst (λ (d : DeskView). submit_refused (state_of d) false c.args.block ≡ None) (sym c.self.view_is) c.requires.allowed in
    let r = room_for 3 c.self.view_is c.requires.room in
    let v = subst (λ (d : DeskView). verdict_on (state_of d).store c.args.block ≡ Some c.args.verdict.now) (sym c.self.view_is) c.requires.verdict in
    let moves = c.in_ok-applied.ensures.done s c.args.block c.self.invariant.0.at e (v ∙ ap Some (sym c.in_ok-plan.ensures.verdict)) in
    let next : c.next_ticket-ticket.result ≡ s.next = c.next_ticket-ticket.ensures.next s c.self.invariant.0.at in
    let left = subst (λ (n : ℕ). AreSameLabels c.remove.new.self (without_label n c.self.inside.labels)) next c.remove.ensures in
    rw (c.push_three.ensures, c.in_ok-events.ensures.submitted, c.in_ok-events.ensures.installed, c.in_ok-events.ensures.finished, c.in_ok-events.ensures.items, next, three_more) (
      kept_moves _ _ _ _ _ c.self.invariant.0 c.args.client
          (Submitted s.next c.args.block ∷ Installed s.next c.in_ok-plan.plan.verdict ∷ Finished s.next c.in_ok-plan.plan.verdict c.in_ok-plan.plan.first_new c.in_ok-plan.plan.stale ∷ []) c.run.new.self
          c.requires.client (has_room _ _ 3 r) (c.say_typed.ensures, (tt, (tt, tt))) moves.0 moves.1,
      label_goes_at_once _ _ _ c.self.invariant.1 c.args.client (Submitted s.next c.args.block) (Installed s.next c.in_ok-plan.plan.verdict)
          (Finished s.next c.in_ok-plan.plan.verdict c.in_ok-plan.plan.first_new c.in_ok-plan.plan.stale) s.next c.remove.new.self left refl refl refl,
    )

pub returns-clause-accepted : goal.returns-clause-accepted
returns-clause-accepted c =
    let d = view_of c.self.inside in
    let s = state_of d in
    let v = subst (λ (d : DeskView). verdict_on (state_of d).store c.args.block ≡ Some c.args.verdict.now) (sym c.self.view_is) c.requires.verdict in
    let p = is_planned c.self.inside.machine {d = view_of c.self.inside} c.self.invariant.0.at c.self.view_is c.in_ok-plan.ensures.plan c.in_ok-plan.ensures.verdict c.requires.fits c.requires.ends c.requires.cells in
    let next : c.next_ticket-ticket.result ≡ s.next = c.next_ticket-ticket.ensures.next s c.self.invariant.0.at in
    rw (c.push_three.ensures, c.in_ok-events.ensures.submitted, c.in_ok-events.ensures.installed, c.in_ok-events.ensures.finished, c.in_ok-events.ensures.items, next, c.in_ok-applied.ensures.pending)
    (ended d c.self.inside.machine c.args.client c.args.block c.in_ok-plan.plan.verdict c.in_ok-plan.plan.first_new c.in_ok-plan.plan.stale c.self.invariant.0.at refl (v ∙ ap Some (sym c.in_ok-plan.ensures.verdict)) p
    ∙ ap (λ (x : DeskView). with_whats x c.args.client (atomically (state_of x) c.args.block)) c.self.view_is)

pub returns-clause-events : goal.returns-clause-events
returns-clause-events c =
    let d = view_of c.self.inside in
    let s = state_of d in
    let k = c.self.invariant.0.at in
    let v = subst (λ (d : DeskView). verdict_on (state_of d).store c.args.block ≡ Some c.args.verdict.now) (sym c.self.view_is) c.requires.verdict in
    let p = is_planned c.self.inside.machine {d = view_of c.self.inside} k c.self.view_is c.in_ok-plan.ensures.plan c.in_ok-plan.ensures.verdict c.requires.fits c.requires.ends c.requires.cells in
    let next : c.next_ticket-ticket.result ≡ s.next = c.next_ticket-ticket.ensures.next s k in
    let first : c.in_ok-applied.applied.first_new ≡ c.in_ok-plan.plan.first_new = ap (λ a. a.first_new) c.in_ok-applied.ensures.applied ∙ ap length k.stands.store_is ∙ sym p.first_new_is in
    rw (c.finish_by.ensures.verdict, c.finish_by.ensures.applied, c.finish_by.ensures.stale, next, first)
    (ap (λ (x : DeskView). atomically (state_of x) c.args.block) (sym c.self.view_is)
    ∙ ended_whats c.self.inside.machine s c.args.block c.in_ok-plan.plan.verdict c.in_ok-plan.plan.first_new c.in_ok-plan.plan.stale k (v ∙ ap Some (sym c.in_ok-plan.ensures.verdict)) p)

pub returns-clause-applied : goal.returns-clause-applied
returns-clause-applied c =
    let k = c.self.invariant.0.at in
    rw (c.finish_by.ensures.applied, c.finish_by.ensures.verdict)
    (c.in_ok-applied.ensures.applied ∙ ap (λ (z : List Cell). applied_answer z c.in_ok-plan.plan.verdict) k.stands.store_is
    ∙ ap (λ (x : DeskView). applied_answer (state_of x).store c.in_ok-plan.plan.verdict) c.self.view_is)
