use Rattle.std.proofs.Common.{◌≡◌, ◌∙◌, ◌<◌, ◌≤◌, ℕ, None, Some, List, drop, sym, ap, arith}
use Rattle.std.specs.Prelude.{slice_get}
use Rattle.stm_queue.specs.Queue.{queued}
use Rattle.stm_desk.proofs.Evaluating.{one_more, no_room, none_left, drop_more, first_dropped}
use Rattle.stm_desk.proofs.desk.Desk.evaluate_on.Goals as goal

pub returns-then-is_full-clause-done : goal.returns-then-is_full-clause-done
returns-then-is_full-clause-done c =
    let q = queued c.args.self.now.pending in
    let at : slice_get q c.loop-count.count ≡ Some c.in-Some.ticket = sym (first_dropped q c.loop-count.count) ∙ ap (λ (ts : List ℕ). slice_get ts 0) (sym c.loop-count.invariant.rest) ∙ sym c.next_queued.ensures.first ∙ c.in-Some.is in
    let l : c.loop-count.count < c.args.n = omega (arith, c.loop-count-test.true) in
    no_room c.args.client c.args.self.now c.loop-count.self c.loop-count.count c.loop-count.invariant.so_far c.args.n c.in-Some.ticket at l (sym c.is_full.ensures ∙ c.if-is_full.true)

pub returns-in-None-clause-done : goal.returns-in-None-clause-done
returns-in-None-clause-done c =
    let q = queued c.args.self.now.pending in
    let none : slice_get (drop c.loop-count.count q) 0 ≡ None = ap (λ (ts : List ℕ). slice_get ts 0) (sym c.loop-count.invariant.rest) ∙ sym c.next_queued.ensures.first ∙ c.in-None.is in
    let l : c.loop-count.count ≤ c.args.n = omega (arith, c.loop-count-test.true) in
    sym (none_left c.args.client c.args.self.now c.loop-count.self c.loop-count.count c.loop-count.invariant.so_far c.args.n none l)

pub loop-count-preserved : goal.loop-count-preserved
loop-count-preserved c =
    let q = queued c.args.self.now.pending in
    let at : slice_get q c.loop-count.count ≡ Some c.in-Some.ticket = sym (first_dropped q c.loop-count.count) ∙ ap (λ (ts : List ℕ). slice_get ts 0) (sym c.loop-count.invariant.rest) ∙ sym c.next_queued.ensures.first ∙ c.in-Some.is in
    record {
      so_far = one_more c.args.client c.args.self.now c.loop-count.self c.loop-count.count c.loop-count.invariant.so_far c.evaluate_next.new.self c.in-Some.ticket at (sym c.is_full.ensures ∙ c.if-is_full.false) c.in_ok-evaluate_next.ensures.done;
      rest = c.in_ok-evaluate_next.ensures.rest ∙ ap (λ (ts : List ℕ). drop 1 ts) c.loop-count.invariant.rest ∙ drop_more q c.loop-count.count;
      store = c.evaluate_next.ensures.store ∙ c.loop-count.invariant.store;
    }
