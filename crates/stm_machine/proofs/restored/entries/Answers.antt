use Rattle.std.proofs.Common.{rules}
use Rattle.stm_machine.proofs.BlocksInTurn.{drop_at, entry_below, entry_next}
use Rattle.stm_machine.proofs.restored.entries.Goals as goal

pub add_entry-requires : goal.add_entry-requires
add_entry-requires c =
    let split = drop_at c.args.blocks.now c.loop-block.block-index c.block-item.result (search rules) c.block-item.is in
    entry_below c.args.blocks.now _ _ c.block-item.result c.loop-block.waiting split c.loop-block.invariant

pub loop-block-preserved : goal.loop-block-preserved
loop-block-preserved c =
    let split = drop_at c.args.blocks.now c.loop-block.block-index c.block-item.result (search rules) c.block-item.is in
    entry_next c.args.blocks.now _ _ c.block-item.result c.loop-block.waiting _ split (search rules) c.loop-block.invariant
