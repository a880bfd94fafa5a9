use Rattle.stm_commands.proofs.CheckpointKept.{kept_again}
use Rattle.stm_commands.proofs.open_desk.OpenDesk.begin_from.Goals as goal

pub invariant_of-self : goal.invariant_of-self
invariant_of-self c = kept_again _ _ _ _ c.begin_from-count.ensures.taken c.history-events.ensures.start c.history-events.ensures.legal c.self.invariant
