use Rattle.std.proofs.Common.{◌≡◌, ◌-◌, false, length}
use Rattle.stm_store.specs.Cells.{plains}
use Rattle.stm_desk.specs.DeskView.{state_of}
use Rattle.stm_machine.specs.SettleChoices.{some_out}
use Rattle.stm_desk.specs.Settling.{HasBegun}
use Rattle.stm_desk.specs.WorkOrders.{order_of}
use Rattle.stm_desk.proofs.desk.Desk.deliver_all.Given as goal

abbrev pub invariant-loop-ticket : goal.invariant-loop-ticket
invariant-loop-ticket l = record {
  begun : HasBegun (order_of l.order) l.client l.fn.self l.self 0 l.delivered;
  none_out : some_out l.self.pending ≡ false;
  store : plains l.frozen-inside.cells ≡ plains (state_of l.self).store;
}

abbrev pub decreases-loop-ticket : goal.decreases-loop-ticket
decreases-loop-ticket l = l.self.limit - length l.self.history
