use Rattle.std.proofs.Common.{List, [], take}
use Rattle.stm_store.specs.Tables.{Declared}
use Rattle.stm_history.specs.Following.{Follows}
use Rattle.stm_history_text.specs.Starts.{table_start}
use Rattle.stm_history.proofs.replaying.step_all.Given as goal

abbrev pub invariant-loop-event : goal.invariant-loop-event
invariant-loop-event l = (T : List Declared) → Follows (table_start T) [] l.initial.replayer → Follows (table_start T) (take l.event-index l.history) l.replayer
