use Rattle.std.proofs.Common.{◌≡◌, length, ap, ◌∙◌, arith}
use Rattle.stm_history_text.proofs.TextInParts.{IsWrittenFrom, checkpoint_1, checkpoint_2, checkpoint_3, checkpoint_whole}
use Rattle.stm_history_text.proofs.writing.write_checkpoint.Goals as goal

pub returns-in-Err : goal.returns-in-Err
returns-in-Err g c =
    let from : IsWrittenFrom c.args.checkpoint.now c.next-next.result c.len-vars.result (length c.blocks-blocks.result.now) c.names-names.result.now c.store-store.result.now c.blocks-blocks.result.now = record {
      next = c.next-next.ensures.next;
      vars = c.len-vars.ensures.len ∙ ap length c.store-store.ensures;
      waiting = ap length c.blocks-blocks.ensures;
      names_are = c.names-names.ensures;
      cells_are = c.store-store.ensures;
      blocks_are = c.blocks-blocks.ensures;
    } in
    checkpoint_1 c.args.format c.args.checkpoint.now _ _ _ _ _ _ from _ _ c.in-Err.ensures

pub returns-in-Err-write_cells : goal.returns-in-Err-write_cells
returns-in-Err-write_cells g c =
    let from : IsWrittenFrom c.args.checkpoint.now c.next-next.result c.len-vars.result (length c.blocks-blocks.result.now) c.names-names.result.now c.store-store.result.now c.blocks-blocks.result.now = record {
      next = c.next-next.ensures.next;
      vars = c.len-vars.ensures.len ∙ ap length c.store-store.ensures;
      waiting = ap length c.blocks-blocks.ensures;
      names_are = c.names-names.ensures;
      cells_are = c.store-store.ensures;
      blocks_are = c.blocks-blocks.ensures;
    } in
    checkpoint_2 c.args.format c.args.checkpoint.now _ _ _ _ _ _ from _ _ _ c.in-Ok.ensures c.in-Err-write_cells.ensures

pub returns-in-Err-write_blocks : goal.returns-in-Err-write_blocks
returns-in-Err-write_blocks g c =
    let from : IsWrittenFrom c.args.checkpoint.now c.next-next.result c.len-vars.result (length c.blocks-blocks.result.now) c.names-names.result.now c.store-store.result.now c.blocks-blocks.result.now = record {
      next = c.next-next.ensures.next;
      vars = c.len-vars.ensures.len ∙ ap length c.store-store.ensures;
      waiting = ap length c.blocks-blocks.ensures;
      names_are = c.names-names.ensures;
      cells_are = c.store-store.ensures;
      blocks_are = c.blocks-blocks.ensures;
    } in
    checkpoint_3 c.args.format c.args.checkpoint.now _ _ _ _ _ _ from _ _ _ _ c.in-Ok.ensures c.in-Ok-write_cells.ensures c.in-Err-write_blocks.ensures

pub returns-in-Ok-write_blocks : goal.returns-in-Ok-write_blocks
returns-in-Ok-write_blocks g c =
    let from : IsWrittenFrom c.args.checkpoint.now c.next-next.result c.len-vars.result (length c.blocks-blocks.result.now) c.names-names.result.now c.store-store.result.now c.blocks-blocks.result.now = record {
      next = c.next-next.ensures.next;
      vars = c.len-vars.ensures.len ∙ ap length c.store-store.ensures;
      waiting = ap length c.blocks-blocks.ensures;
      names_are = c.names-names.ensures;
      cells_are = c.store-store.ensures;
      blocks_are = c.blocks-blocks.ensures;
    } in
    checkpoint_whole c.args.format c.args.checkpoint.now _ _ _ _ _ _ from _ _ _ _ c.in-Ok.ensures c.in-Ok-write_cells.ensures c.in-Ok-write_blocks.ensures

pub overflow_cast-waiting : goal.overflow_cast-waiting
overflow_cast-waiting g c = let e : length c.blocks-blocks.result.now ≡ length c.args.checkpoint.now.blocks = ap length c.blocks-blocks.ensures in omega (arith, e, c.next-next.ensures.checkpoint.few)
