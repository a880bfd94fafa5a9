use Rattle.std.proofs.Common.{List, length, ap, arith}
use Rattle.stm_machine.specs.declared.checkpoint.CheckpointBlock.{CheckpointBlock}
use Rattle.stm_history.proofs.ReachedStages.{running_stage}
use Rattle.stm_history.proofs.beginning.with_blocks.Goals as goal

pub returns-in-Ok-clause-stage : goal.returns-in-Ok-clause-stage
returns-in-Ok-clause-stage c =
    let l = ap (λ (bs : List CheckpointBlock). length bs) c.blocks-2.ensures in
    running_stage c.args.format c.args.waiting c.args.checkpoint c.with_seed.result c.in-Ok.replayer c.with_seed.ensures (omega (arith, l, c.if-blocks-waiting.false)) c.in-Ok.ensures.follows
