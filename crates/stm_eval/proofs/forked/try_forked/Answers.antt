use Rattle.stm_eval.proofs.TypedBranches.{block_can_run}
use Rattle.stm_eval.proofs.forked.try_forked.Goals as goal

pub run_whole_forked-requires-after_bounds : goal.run_whole_forked-requires-after_bounds
run_whole_forked-requires-after_bounds g c κs within =
    rw (c.action-action.ensures.action, c.start-log.ensures)
    (block_can_run c.args.frozen.now c.args.block.now.uses c.args.block.now.tree _ c.len-cells.ensures.store.typed c.requires c.action-action.ensures.typed.typed c.action-action.ensures.typed.few)
