use Rattle.stm_history.proofs.AllowedEvents.{begun_from}
use Rattle.stm_history.proofs.replayer.Replayer.open_from.Goals as goal

pub returns-clause-follows : goal.returns-clause-follows
returns-clause-follows c = begun_from c.begin.result c.args.checkpoint.now c.in_ok-machine.machine c.begin.ensures.follows c.in_ok-machine.ensures.at c.next-next.ensures.checkpoint
