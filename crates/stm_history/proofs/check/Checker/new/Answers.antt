use Rattle.stm_history.proofs.StartOfACheck.{reached_start}
use Rattle.stm_history.proofs.check.Checker.new.Goals as goal

pub returns-clause-reached : goal.returns-clause-reached
returns-clause-reached c = reached_start c.args.keep _ c.new.ensures.items
