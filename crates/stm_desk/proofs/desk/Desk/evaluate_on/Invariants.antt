use Rattle.std.proofs.Common.{◌≡◌, None, drop}
use Rattle.stm_queue.specs.Queue.{queued}
use Rattle.stm_desk.specs.Evaluating.{evaluate_lowest}
use Rattle.stm_desk.specs.DeskView.{state_of}
use Rattle.stm_desk.proofs.desk.Desk.evaluate_on.Given as goal

abbrev pub invariant-loop-count : goal.invariant-loop-count
invariant-loop-count l = record {
  so_far : evaluate_lowest l.fn.self l.client l.count ≡ record { desk = l.self; count = l.count; stop = None };
  rest : queued l.self.pending ≡ drop l.count (queued l.fn.self.pending);
  store : (state_of l.self).store ≡ (state_of l.fn.self).store;
}
