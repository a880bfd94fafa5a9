use Rattle.std.proofs.Common.{◌∙◌, arith, sym}
use Rattle.stm_desk.specs.DeskView.{state_of}
use Rattle.stm_desk.specs.Settling.{requeued_all}
use Rattle.stm_desk.specs.WorkOrders.{order_of}
use Rattle.stm_desk.proofs.WorkOrders.{finishes_at, rests_at}
use Rattle.stm_desk.proofs.Runs.{all_block, begun_here, begun_round, begun_finish, settled_end, has_stopped, finished_fits, evaluated_fits, less_after, out_one, out_back}
use Rattle.stm_desk.proofs.desk.Desk.run.Goals as goal

pub loop-delivered-init : goal.loop-delivered-init
loop-delivered-init c = record {
  begun = rw c.call_back.ensures (begun_here (order_of c.args.order) c.args.client (requeued_all c.args.self.now));
  none_out = rw c.call_back.ensures (out_back c.args.self.now);
}

pub overflow_add-evaluations : goal.overflow_add-evaluations
overflow_add-evaluations c =
    let b = begun_round (order_of c.args.order) c.args.client c.loop-delivered.finished c.loop-delivered.evaluations c.in-Ok.delivered (requeued_all c.args.self.now) c.loop-delivered.self c.deliver_all.new.self c.loop-delivered.invariant.begun c.in-Ok.ensures.begun in
    omega (arith, c.in-Ok.ensures.legal.few, evaluated_fits (order_of c.args.order) c.args.client _ _ (requeued_all c.args.self.now) c.deliver_all.new.self b)

pub overflow_add-result : goal.overflow_add-result
overflow_add-result c =
    let b = begun_round (order_of c.args.order) c.args.client c.loop-delivered.finished c.loop-delivered.evaluations c.in-Err.delivered (requeued_all c.args.self.now) c.loop-delivered.self c.deliver_all.new.self c.loop-delivered.invariant.begun c.in-Err.ensures.stopped in
    omega (arith, c.in-Err.ensures.legal.few, evaluated_fits (order_of c.args.order) c.args.client _ _ (requeued_all c.args.self.now) c.deliver_all.new.self b)

pub returns-in-Err-clause-done : goal.returns-in-Err-clause-done
returns-in-Err-clause-done c =
    let b = begun_round (order_of c.args.order) c.args.client c.loop-delivered.finished c.loop-delivered.evaluations c.in-Err.delivered (requeued_all c.args.self.now) c.loop-delivered.self c.deliver_all.new.self c.loop-delivered.invariant.begun c.in-Err.ensures.stopped in
    has_stopped (order_of c.args.order) c.args.client _ _ (requeued_all c.args.self.now) c.deliver_all.new.self c.in-Err.why b c.in-Err.ensures.why

pub returns-in-None-clause-done : goal.returns-in-None-clause-done
returns-in-None-clause-done c =
    let s = state_of c.deliver_all.new.self in
    let b = begun_round (order_of c.args.order) c.args.client c.loop-delivered.finished c.loop-delivered.evaluations c.in-Ok.delivered (requeued_all c.args.self.now) c.loop-delivered.self c.deliver_all.new.self c.loop-delivered.invariant.begun c.in-Ok.ensures.begun in
    settled_end (order_of c.args.order) c.args.client _ _ (requeued_all c.args.self.now) c.deliver_all.new.self b
    (rests_at c.args.order s c.in-Ok.ensures.none_due (sym c.next_end.ensures ∙ c.in-None.is)).next

pub returns-in-None-clause-settled : goal.returns-in-None-clause-settled
returns-in-None-clause-settled c =
    let s = state_of c.deliver_all.new.self in
    let r = rests_at c.args.order s c.in-Ok.ensures.none_due (sym c.next_end.ensures ∙ c.in-None.is) in
    all_block s c.history-events.ensures.verdicts r.due r.end

pub overflow_add-finished : goal.overflow_add-finished
overflow_add-finished c =
    let b = begun_round (order_of c.args.order) c.args.client c.loop-delivered.finished c.loop-delivered.evaluations c.in-Ok.delivered (requeued_all c.args.self.now) c.loop-delivered.self c.deliver_all.new.self c.loop-delivered.invariant.begun c.in-Ok.ensures.begun in
    omega (arith, c.in-Ok.ensures.legal.few, finished_fits (order_of c.args.order) c.args.client _ _ (requeued_all c.args.self.now) c.deliver_all.new.self b)

pub loop-delivered-smaller : goal.loop-delivered-smaller
loop-delivered-smaller c = less_after (order_of c.args.order) c.args.client c.in-Ok.delivered 1 0 c.loop-delivered.self c.deliver_all.new.self c.finish_next.new.self c.in-Ok.ensures.begun (c.in-Ok-finish_next.ensures.done (order_of c.args.order) (finishes_at c.args.order (state_of c.deliver_all.new.self) c.in-Some.ticket c.deliver_all.ensures.possible c.in-Ok.ensures.none_due (sym c.next_end.ensures ∙ c.in-Some.is)).next)

pub loop-delivered-preserved : goal.loop-delivered-preserved
loop-delivered-preserved c =
    let b = begun_round (order_of c.args.order) c.args.client c.loop-delivered.finished c.loop-delivered.evaluations c.in-Ok.delivered (requeued_all c.args.self.now) c.loop-delivered.self c.deliver_all.new.self c.loop-delivered.invariant.begun c.in-Ok.ensures.begun in
    record {
      begun = begun_finish (order_of c.args.order) c.args.client c.loop-delivered.finished _ (requeued_all c.args.self.now) c.deliver_all.new.self c.finish_next.new.self b (c.in-Ok-finish_next.ensures.done (order_of c.args.order) (finishes_at c.args.order (state_of c.deliver_all.new.self) c.in-Some.ticket c.deliver_all.ensures.possible c.in-Ok.ensures.none_due (sym c.next_end.ensures ∙ c.in-Some.is)).next);
      none_out = out_one (order_of c.args.order) c.args.client 1 0 c.deliver_all.new.self c.finish_next.new.self (c.in-Ok-finish_next.ensures.done (order_of c.args.order) (finishes_at c.args.order (state_of c.deliver_all.new.self) c.in-Some.ticket c.deliver_all.ensures.possible c.in-Ok.ensures.none_due (sym c.next_end.ensures ∙ c.in-Some.is)).next) c.deliver_all.ensures.none_out;
    }

pub returns-in-Err-finish_next-clause-done : goal.returns-in-Err-finish_next-clause-done
returns-in-Err-finish_next-clause-done c =
    let b = begun_round (order_of c.args.order) c.args.client c.loop-delivered.finished c.loop-delivered.evaluations c.in-Ok.delivered (requeued_all c.args.self.now) c.loop-delivered.self c.deliver_all.new.self c.loop-delivered.invariant.begun c.in-Ok.ensures.begun in
    rw c.in-Err-finish_next.ensures.unchanged (has_stopped (order_of c.args.order) c.args.client _ _ (requeued_all c.args.self.now) c.deliver_all.new.self c.in-Err-finish_next.why b (c.in-Err-finish_next.ensures.why (order_of c.args.order) (finishes_at c.args.order (state_of c.deliver_all.new.self) c.in-Some.ticket c.deliver_all.ensures.possible c.in-Ok.ensures.none_due (sym c.next_end.ensures ∙ c.in-Some.is)).next))

pub finish_next-requires-clause-ready : goal.finish_next-requires-clause-ready
finish_next-requires-clause-ready c = (finishes_at c.args.order (state_of c.deliver_all.new.self) c.in-Some.ticket c.deliver_all.ensures.possible c.in-Ok.ensures.none_due (sym c.next_end.ensures ∙ c.in-Some.is)).ready
