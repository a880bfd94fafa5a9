use Rattle.std.proofs.Common.{rules, ◌∙◌, ◌||◌, sym, ap, nat_eq}
use Rattle.stm_queue.specs.SortedTickets.{member}
use Rattle.stm_queue.proofs.InvariantPreserved.{member_insert}
use Rattle.stm_machine.proofs.BlocksInTurn.{drop_at, ready_next, ready_passed}
use Rattle.stm_machine.proofs.restored.ready_tickets.Goals.{then-is_ready+in_ok-make_room, else-is_ready}
use Rattle.stm_machine.proofs.restored.ready_tickets.Goals as goal

pub loop-block-preserved : goal.loop-block-preserved
loop-block-preserved c =
    let split = drop_at c.args.blocks.now c.loop-block.block-index c.block-item.result (search rules) c.block-item.is in
    elim c.if-is_ready.branch [
      | then-is_ready+in_ok-make_room w ↦
          ready_next c.args.blocks.now _ _ c.block-item.result c.loop-block.ready.tickets _ split (sym c.is_ready.ensures ∙ w.if-is_ready.true)
          (λ u. ap (λ q. member u q.tickets) w.ready-is ∙ ap (λ ts. member u ts) w.add_if.ensures ∙ member_insert u c.block-item.result.ticket _ ∙ ap (λ ts. nat_eq u c.block-item.result.ticket || member u ts) w.make_room.ensures.same) c.loop-block.invariant
      | else-is_ready w ↦ ready_passed c.args.blocks.now _ _ c.block-item.result c.loop-block.ready.tickets _ split (sym c.is_ready.ensures ∙ w.if-is_ready.false) (ap (λ q. q.tickets) w.ready-is) c.loop-block.invariant
    ]
