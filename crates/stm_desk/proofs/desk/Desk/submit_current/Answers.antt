use Rattle.std.proofs.Common.{◌≡◌, ◌∙◌, None, [], ◌∷◌, false, refl, sym, ap, subst, arith}
use Rattle.stm_events.specs.declared.event.What.TheVariants.{Submitted, Installed}
use Rattle.stm_events.specs.Refusals.{submit_refused}
use Rattle.stm_events.specs.SlowAtomically.{atomically}
use Rattle.stm_events.specs.SlowDesk.{state_from}
use Rattle.stm_machine.specs.Atomic.{IsVerdictOf}
use Rattle.stm_machine.specs.Checkpoints.{start_of}
use Rattle.stm_desk.specs.DeskView.{DeskView, state_of}
use Rattle.stm_desk.specs.Settling.{with_whats}
use Rattle.stm_desk.proofs.Atomically.{kept_moves, two_more, has_room, waited, not_full}
use Rattle.stm_desk.proofs.Calls.{ticket_left}
use Rattle.stm_desk.proofs.Labels.{labels_stay_twice}
use Rattle.stm_desk.proofs.Views.{view_of, room_for}
use Rattle.stm_desk.proofs.desk.Desk.submit_current.Goals as goal

pub submit_current-requires : goal.submit_current-requires
submit_current-requires c =
    let e = subst (λ (d : DeskView). submit_refused (state_of d) false c.args.block ≡ None) (sym c.self.view_is) c.requires.allowed in
    let r = room_for 2 c.self.view_is c.requires.room in
    let v = subst (λ (d : DeskView). IsVerdictOf (state_of d) c.args.block c.args.verdict c.args.scratch.now) (sym c.self.view_is) c.requires.verdict in (
      state_from (start_of c.self.inside.table c.self.inside.checkpoint) c.self.inside.history.items,
      c.self.invariant.0.at,
      record {
        ticket = ticket_left _ _ _ _ _ c.self.invariant.0 (not_full _ _ 2 r (omega arith));
        may = e;
        verdict_of = v;
        blocks = c.requires.blocks;
      },
    )

pub invariant_of-self-2 : goal.invariant_of-self-2
invariant_of-self-2 c =
    let s = state_from (start_of c.self.inside.table c.self.inside.checkpoint) c.self.inside.history.items in
    let r = room_for 2 c.self.view_is c.requires.room in
    let moves = c.in_ok-submit_current.ensures.done s c.self.invariant.0.at in
    rw (c.push_two.ensures, c.in_ok-reserve.ensures.items, c.in_ok-shared.ensures, c.in_ok-installed.ensures, c.next_ticket-ticket.ensures.held, two_more) (
      kept_moves _ _ _ _ _ c.self.invariant.0 c.args.client (Submitted c.self.inside.machine.next c.args.block ∷ Installed c.self.inside.machine.next c.args.verdict ∷ []) c.submit_current.new.self
          c.requires.client (has_room _ _ 2 r) (c.say_typed.ensures, (tt, tt)) moves.0 moves.1,
      labels_stay_twice _ _ _ c.self.invariant.1 c.args.client (Submitted c.self.inside.machine.next c.args.block) (Installed c.self.inside.machine.next c.args.verdict) refl refl,
    )

pub returns-clause-accepted : goal.returns-clause-accepted
returns-clause-accepted c =
    let d = view_of c.self.inside in
    let v = subst (λ (d : DeskView). IsVerdictOf (state_of d) c.args.block c.args.verdict c.args.scratch.now) (sym c.self.view_is) c.requires.verdict in
    let next : c.next_ticket-ticket.result ≡ (state_of d).next = c.next_ticket-ticket.ensures.next (state_of d) c.self.invariant.0.at in
    rw (c.push_two.ensures, c.in_ok-reserve.ensures.items, c.in_ok-shared.ensures, c.in_ok-installed.ensures, next, c.in_ok-submit_current.ensures.pending)
    (waited d c.self.inside.machine c.args.client c.args.block c.args.verdict c.self.invariant.0.at refl v.verdict c.requires.blocks
    ∙ ap (λ (x : DeskView). with_whats x c.args.client (atomically (state_of x) c.args.block)) c.self.view_is)
