use Rattle.std.proofs.Common.{refl}
use Rattle.stm_run.specs.Console.{initial_console}
use Rattle.stm_journaled_run.proofs.streams.loaded_count.Goals as goal

pub returns-in-None : goal.returns-in-None
unfolding initial_console
returns-in-None c = λ limit. rw c.in-None.is refl
