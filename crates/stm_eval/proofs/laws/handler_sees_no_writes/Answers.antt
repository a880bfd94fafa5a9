use Rattle.stm_eval.proofs.CatchLaws.{no_writes_seen}
use Rattle.stm_eval.proofs.laws.handler_sees_no_writes.Goals as goal

pub returns : goal.returns
returns c = no_writes_seen
