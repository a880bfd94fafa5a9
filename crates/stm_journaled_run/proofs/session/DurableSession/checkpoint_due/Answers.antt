use Rattle.stm_journaled_run.proofs.Taking.{either_still}
use Rattle.stm_journaled_run.proofs.session.DurableSession.checkpoint_due.Goals as goal

pub returns-then-count-self-clause-any_moment : goal.returns-then-count-self-clause-any_moment
returns-then-count-self-clause-any_moment g c = either_still g.D.Device.disk c.args.file.now (g.met.D.Device.lawful.only_now c.args.file.now.journal.device) c.args.self.now.console
