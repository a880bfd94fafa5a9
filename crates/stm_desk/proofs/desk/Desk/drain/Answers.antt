use Rattle.stm_desk.proofs.DrainServes.{serves}
use Rattle.stm_desk.proofs.desk.Desk.drain.Goals as goal

pub returns-clause-serves : goal.returns-clause-serves
returns-clause-serves c = serves c.args.self.now c.run.new.self c.args.client c.run.result c.know_typed.ensures.possible c.know_typed.ensures.typed c.run.ensures.done
