use Rattle.std.proofs.Common.{◌∙◌}
use Rattle.stm_desk.specs.DeskView.{state_of}
use Rattle.stm_desk.proofs.WorkOrders.{end_is_ready}
use Rattle.stm_desk.proofs.desk.Desk.next_end.Goals as goal

pub returns : goal.returns
returns c = c.next_ready.ensures ∙ end_is_ready c.args.order (state_of c.args.self.now) c.requires.possible c.requires.none_due
