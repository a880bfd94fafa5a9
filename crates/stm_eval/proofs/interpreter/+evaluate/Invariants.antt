use Rattle.std.proofs.Common.{◌≡◌, ◌+◌, ◌*◌, ◌≤◌, length, take}
use Rattle.stm_terms.specs.Ast.{act_of}
use Rattle.stm_terms.specs.Changes.{cell_value}
use Rattle.stm_terms.specs.Semantics.{run}
use Rattle.stm_terms.specs.ReadSet.{looks, insert_reads}
use Rattle.stm_terms.specs.Typing.{makes}
use Rattle.stm_eval.specs.InterpreterSteps.{size}
use Rattle.stm_eval.proofs.interpreter.+evaluate.Given as goal

-- what is left ends as the whole does, and reads what is left of its reads
abbrev pub invariant-evaluate-loop-next : goal.invariant-evaluate-loop-next
invariant-evaluate-loop-next l = record {
  outcome : run (cell_value l.frozen) (act_of l.action) l.fn.locals.items l.fn.log.top ≡ run (cell_value l.frozen) (act_of l.rest) l.locals.items l.log.top;
  reads : insert_reads (cell_value l.frozen) (looks (cell_value l.frozen) (act_of l.action) l.fn.locals.items l.fn.log.top) l.fn.log.reads ≡ insert_reads (cell_value l.frozen) (looks (cell_value l.frozen) (act_of l.rest) l.locals.items l.log.top) l.log.reads;
  made : length l.log.top.news + makes (act_of l.rest) ≤ length l.fn.log.top.news + makes (act_of l.action);
  below : l.log.below ≡ l.fn.log.below;
  locals : take l.outer l.locals.items ≡ l.fn.locals.items;
  size : size (act_of l.rest) ≤ size (act_of l.action);
}

abbrev pub decreases-evaluate-loop-next : goal.decreases-evaluate-loop-next
decreases-evaluate-loop-next l = size (act_of l.rest)

-- a step of an action stands between the action and its parts
abbrev pub decreases-evaluate : goal.decreases-evaluate
decreases-evaluate l = 3 * size (act_of l.action.now) + 1

abbrev pub decreases-step : goal.decreases-step
decreases-step l = 3 * size (act_of l.action.now)

abbrev pub decreases-run_left : goal.decreases-run_left
decreases-run_left l = 3 * size (act_of l.left.now) + 3 * size (act_of l.right.now) + 2

abbrev pub decreases-run_bound : goal.decreases-run_bound
decreases-run_bound l = 3 * size (act_of l.bound.now) + 3 * size (act_of l.rest.now) + 2

abbrev pub decreases-run_first : goal.decreases-run_first
decreases-run_first l = 3 * size (act_of l.first.now) + 3 * size (act_of l.rest.now) + 2

abbrev pub decreases-run_caught : goal.decreases-run_caught
decreases-run_caught l = 3 * size (act_of l.action.now) + 3 * size (act_of l.handler.now) + 2
