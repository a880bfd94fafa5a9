use Rattle.std.proofs.Common.{◌≡◌, ◌-◌, false, length}
use Rattle.stm_machine.specs.SettleChoices.{some_out}
use Rattle.stm_desk.specs.Settling.{requeued_all, HasBegun}
use Rattle.stm_desk.specs.WorkOrders.{order_of}
use Rattle.stm_desk.proofs.desk.Desk.run.Given as goal

abbrev pub invariant-loop-delivered : goal.invariant-loop-delivered
invariant-loop-delivered l = record {
  begun : HasBegun (order_of l.order) l.client (requeued_all l.fn.self) l.self l.finished l.evaluations;
  none_out : some_out l.self.pending ≡ false;
}

abbrev pub decreases-loop-delivered : goal.decreases-loop-delivered
decreases-loop-delivered l = l.self.limit - length l.self.history
