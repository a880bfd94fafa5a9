use Rattle.std.proofs.Common.{rules, ◌∙◌, sym, ap}
use Rattle.stm_queue.specs.Queue.{with_ticket}
use Rattle.stm_machine.proofs.BlocksInTurn.{drop_at, due_next, due_passed}
use Rattle.stm_machine.proofs.restored.due_tickets.Goals.{then-is_due+in_ok-make_room, else-is_due}
use Rattle.stm_machine.proofs.restored.due_tickets.Goals as goal

pub loop-block-preserved : goal.loop-block-preserved
loop-block-preserved c =
    let split = drop_at c.args.blocks.now c.loop-block.block-index c.block-item.result (search rules) c.block-item.is in
    elim c.if-is_due.branch [
      | then-is_due+in_ok-make_room w ↦
          due_next c.args.blocks.now _ _ c.block-item.result c.loop-block.pending.entries _ split (sym c.is_due.ensures ∙ w.if-is_due.true)
          (ap (λ q. q.entries) (w.pending-is ∙ w.add.ensures) ∙ ap (λ q. with_ticket c.block-item.result.ticket q.entries) w.in_ok-make_room.ensures.done) c.loop-block.invariant
      | else-is_due w ↦ due_passed c.args.blocks.now _ _ c.block-item.result c.loop-block.pending.entries _ split (sym c.is_due.ensures ∙ w.if-is_due.false) (ap (λ q. q.entries) w.pending-is) c.loop-block.invariant
    ]
