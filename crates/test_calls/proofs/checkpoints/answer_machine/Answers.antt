use Rattle.std.proofs.Common.{refl}
use Rattle.stm_machine.specs.Checkpoints.{checkpoint_state}
use Rattle.stm_machine.proofs.CheckpointStates.{checkpoints_are_possible}
use Rattle.test_calls.proofs.checkpoints.answer_machine.Goals as goal

pub say_taken-requires : goal.say_taken-requires
say_taken-requires c =
    let at = c.args.checkpoint.now in
    (checkpoint_state at, c.in_ok-machine.ensures.at, (checkpoints_are_possible at c.next-next.ensures.checkpoint).1, refl)
