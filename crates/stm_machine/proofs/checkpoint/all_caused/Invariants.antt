use Rattle.std.proofs.Common.{◌≡◌, ◌++◌, map}
use Rattle.std.specs.Vec.Iter.{into_iter_items}
use Rattle.stm_events.specs.KeptCauses.{kept_cause_of}
use Rattle.stm_machine.specs.Checkpoints.{caused_block}
use Rattle.stm_machine.proofs.checkpoint.all_caused.Given as goal

abbrev pub invariant-loop-block : goal.invariant-loop-block
invariant-loop-block l =
    (l.all.items ≡ map (caused_block (λ t. kept_cause_of t l.causes)) l.yielded) × (l.fn.blocks.items ≡ l.yielded ++ into_iter_items l.block-iterator)
