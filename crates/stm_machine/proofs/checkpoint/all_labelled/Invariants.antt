use Rattle.std.proofs.Common.{◌≡◌, ◌++◌, map}
use Rattle.std.specs.Vec.Iter.{into_iter_items}
use Rattle.stm_machine.specs.Checkpoints.{labelled_block}
use Rattle.stm_machine.proofs.checkpoint.all_labelled.Given as goal

abbrev pub invariant-loop-block : goal.invariant-loop-block
invariant-loop-block l =
    (l.all.items ≡ map (labelled_block l.labels) l.yielded) × (l.fn.blocks.items ≡ l.yielded ++ into_iter_items l.block-iterator)
