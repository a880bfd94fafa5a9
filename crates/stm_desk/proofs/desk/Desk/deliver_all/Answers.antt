use Rattle.std.proofs.Common.{arith, ◌∙◌, sym, ap}
use Rattle.stm_store.specs.Cells.{plains}
use Rattle.stm_desk.specs.DeskView.{state_of}
use Rattle.stm_desk.specs.WorkOrders.{order_of}
use Rattle.stm_desk.proofs.WorkOrders.{installs_at}
use Rattle.stm_desk.proofs.Runs.{begun_install, less_room, out_one, evaluated_fits}
use Rattle.stm_desk.proofs.desk.Desk.deliver_all.Goals as goal

pub overflow_add-delivered : goal.overflow_add-delivered
overflow_add-delivered c =
    omega (arith, c.in-Some.ensures.legal.few, evaluated_fits (order_of c.args.order) c.args.client 0 c.loop-ticket.delivered c.args.self.now c.loop-ticket.self c.loop-ticket.invariant.begun)

pub loop-ticket-preserved : goal.loop-ticket-preserved
loop-ticket-preserved c = record {
  begun = begun_install (order_of c.args.order) c.args.client c.loop-ticket.delivered c.args.self.now c.loop-ticket.self c.deliver_next.new.self c.loop-ticket.invariant.begun (c.in-Ok-deliver_next.ensures.done (order_of c.args.order) (installs_at c.args.order (state_of c.loop-ticket.self) c.in-Some.ticket c.in-Some.ensures.possible (sym c.in-Some.ensures.first)).next);
  none_out = out_one (order_of c.args.order) c.args.client 0 1 c.loop-ticket.self c.deliver_next.new.self (c.in-Ok-deliver_next.ensures.done (order_of c.args.order) (installs_at c.args.order (state_of c.loop-ticket.self) c.in-Some.ticket c.in-Some.ensures.possible (sym c.in-Some.ensures.first)).next) c.loop-ticket.invariant.none_out;
  store = c.loop-ticket.invariant.store ∙ ap plains (sym c.deliver_next.ensures.store);
}

pub deliver_next-requires-clause-due : goal.deliver_next-requires-clause-due
deliver_next-requires-clause-due c = (installs_at c.args.order (state_of c.loop-ticket.self) c.in-Some.ticket c.in-Some.ensures.possible (sym c.in-Some.ensures.first)).due

pub returns-in-Err-deliver_next-clause-why : goal.returns-in-Err-deliver_next-clause-why
returns-in-Err-deliver_next-clause-why c =
    rw c.in-Err-deliver_next.ensures.unchanged (c.in-Err-deliver_next.ensures.why (order_of c.args.order) (installs_at c.args.order (state_of c.loop-ticket.self) c.in-Some.ticket c.in-Some.ensures.possible (sym c.in-Some.ensures.first)).next)

pub loop-ticket-smaller : goal.loop-ticket-smaller
loop-ticket-smaller c =
    less_room (order_of c.args.order) c.args.client 0 1 c.loop-ticket.self c.deliver_next.new.self
    (c.in-Ok-deliver_next.ensures.done (order_of c.args.order) (installs_at c.args.order (state_of c.loop-ticket.self) c.in-Some.ticket c.in-Some.ensures.possible (sym c.in-Some.ensures.first)).next)
