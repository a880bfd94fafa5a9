use Rattle.std.proofs.Common.{subst, refl}
use Rattle.stm_machine.specs.Checkpoints.{CheckpointView, checkpoint_state}
use Rattle.stm_machine.specs.Machine.{IsAt}
use Rattle.stm_machine.proofs.BlocksByTicket.{tickets_rise, blocks_ready, stands_at}
use Rattle.stm_machine.proofs.machine.Machine.from_checkpoint.Goals as goal

pub of_blocks-requires : goal.of_blocks-requires
of_blocks-requires c =
    let i = c.checkpoint.inside in
    rw c.as_slice.ensures.value (tickets_rise i.store i.next 0 i.blocks.items c.checkpoint.invariant.blocks)

pub into_machine-requires : goal.into_machine-requires
into_machine-requires c =
    let i = c.checkpoint.inside in
    let kept = rw c.as_slice.ensures.value at c.in_ok-blocks.ensures in
    rw kept.entries
    (blocks_ready i.blocks.items c.in_ok-blocks.blocks.ready.tickets c.in_ok-blocks.blocks.pending.entries 0 (tickets_rise i.store i.next 0 i.blocks.items c.checkpoint.invariant.blocks)
    kept.ready kept.due)

pub returns-clause-at : goal.returns-clause-at
returns-clause-at c =
    let i = c.checkpoint.inside in
    let kept = rw c.as_slice.ensures.value at c.in_ok-blocks.ensures in
    subst (λ (v : CheckpointView). IsAt c.into_machine-2.result (checkpoint_state v)) c.checkpoint.view_is
    (rw c.into_machine-2.ensures
    (stands_at (record { store = i.store; names = i.names; next = i.next; blocks = i.blocks.items }) _ c.checkpoint.invariant refl c.in_ok-share.ensures c.in_ok-copy.ensures refl kept.entries kept.due kept.watched))
