use Rattle.std.proofs.Common.{arith}
use Rattle.std.proofs.lemmas.Grind.{common_steps}
use Rattle.stm_history_text.specs.Starts.{state_after_start}
use Rattle.stm_history.proofs.replayer.Replayer.numbers.Goals as goal

pub overflow_cast-result : goal.overflow_cast-result
overflow_cast-result c =
    let f = c.requires in
    let few = c.waiting.ensures.few (state_after_start f.0 f.1) (f.2).at in
    grind (arith, common_steps)
