use Rattle.stm_commands.proofs.DeskSteps.{text_ran}
use Rattle.stm_commands.proofs.open_desk.OpenDesk.answer_atomically.Goals as goal

pub returns-in-Ok : goal.returns-in-Ok
returns-in-Ok c = text_ran c.args.self.now c.block.new.self c.atomically.new.self c.args.text.now c.in-Ok.block _ _ c.atomically.result c.block.ensures.same c.in-Ok.ensures.block c.atomically.ensures
