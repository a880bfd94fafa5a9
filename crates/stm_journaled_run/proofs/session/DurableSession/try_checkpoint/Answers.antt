use Rattle.stm_run.specs.ConsoleState.{present_desk}
use Rattle.stm_journaled_run.proofs.Taking.{either_leaves, either_still, room_for_it}
use Rattle.stm_journaled_run.proofs.session.DurableSession.try_checkpoint.Goals as goal

pub returns-in-Ok-Some-clause-any_moment : goal.returns-in-Ok-Some-clause-any_moment
returns-in-Ok-Some-clause-any_moment g c =
    let made = rw c.in-Ok-Some.field-0-is at c.in-Ok-Some.ensures.made in
    either_leaves g.D.Device.disk c.args.file.now c.begin_anew.new.file c.args.self.now.console (room_for_it (present_desk c.args.self.now.console) _ made) c.begin_anew.ensures.any_moment

pub returns-in-Ok-None-clause-any_moment : goal.returns-in-Ok-None-clause-any_moment
returns-in-Ok-None-clause-any_moment g c = either_still g.D.Device.disk c.args.file.now (g.met.D.Device.lawful.only_now c.args.file.now.journal.device) c.args.self.now.console

pub returns-in-Err-clause-any_moment : goal.returns-in-Err-clause-any_moment
returns-in-Err-clause-any_moment g c = either_still g.D.Device.disk c.args.file.now (g.met.D.Device.lawful.only_now c.args.file.now.journal.device) c.args.self.now.console
