use Rattle.stm_history.proofs.JudgedBytes.{judged}
use Rattle.stm_history.proofs.check.check_history_with.Goals as goal

pub returns : goal.returns
returns g c = judged (g.R.Read.remaining c.args.reader.now) c.check_rest.result c.check_rest.ensures.done c.check_rest.ensures.fault
