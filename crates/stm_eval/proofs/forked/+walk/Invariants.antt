use Rattle.std.proofs.Common.{◌≡◌, ◌+◌, ◌*◌, ◌≤◌, length, take}
use Rattle.stm_terms.specs.Ast.{act_of}
use Rattle.stm_terms.specs.Changes.{cell_value}
use Rattle.stm_terms.specs.Semantics.{run}
use Rattle.stm_terms.specs.ReadSet.{looks, insert_reads}
use Rattle.stm_terms.specs.Typing.{makes}
use Rattle.stm_eval.specs.InterpreterSteps.{size}
use Rattle.stm_eval.specs.BothBranches.{AllBranchesDefined, IsReadSetOf}
use Rattle.stm_eval.proofs.forked.+walk.Given as goal

-- what is left ends as the whole does, and reads what is left of its reads
abbrev pub invariant-walk-loop-next : goal.invariant-walk-loop-next
invariant-walk-loop-next g l = record {
  outcome : run (cell_value l.frozen) (act_of l.action) l.fn.locals.items l.fn.log.top ≡ run (cell_value l.frozen) (act_of l.rest) l.locals.items l.log.top;
  reads : insert_reads (cell_value l.frozen) (looks (cell_value l.frozen) (act_of l.action) l.fn.locals.items l.fn.log.top) l.fn.log.reads ≡ insert_reads (cell_value l.frozen) (looks (cell_value l.frozen) (act_of l.rest) l.locals.items l.log.top) l.log.reads;
  made : length l.log.top.news + makes (act_of l.rest) ≤ length l.fn.log.top.news + makes (act_of l.action);
  below : l.log.below ≡ l.fn.log.below;
  locals : take l.outer l.locals.items ≡ l.fn.locals.items;
  size : size (act_of l.rest) ≤ size (act_of l.action);
  defined : AllBranchesDefined (cell_value l.frozen) (act_of l.rest) l.locals.items l.log.top;
  read_set : IsReadSetOf (cell_value l.frozen) l.log.reads;
}

abbrev pub decreases-walk-loop-next : goal.decreases-walk-loop-next
decreases-walk-loop-next g l = size (act_of l.rest)

-- a step stands between an action and its parts, and so do two branches and their threads
abbrev pub decreases-walk : goal.decreases-walk
decreases-walk g l = 8 * size (act_of l.action.now) + 1

abbrev pub decreases-step : goal.decreases-step
decreases-step g l = 8 * size (act_of l.action.now)

abbrev pub decreases-walk_bound : goal.decreases-walk_bound
decreases-walk_bound g l = 8 * size (act_of l.bound.now) + 8 * size (act_of l.rest.now) + 2

abbrev pub decreases-walk_first : goal.decreases-walk_first
decreases-walk_first g l = 8 * size (act_of l.first.now) + 8 * size (act_of l.rest.now) + 2

abbrev pub decreases-walk_caught : goal.decreases-walk_caught
decreases-walk_caught g l = 8 * size (act_of l.action.now) + 8 * size (act_of l.handler.now) + 2

abbrev pub decreases-run_or_else : goal.decreases-run_or_else
decreases-run_or_else g l = 8 * size (act_of l.left.now) + 8 * size (act_of l.right.now) + 6

abbrev pub decreases-run_both : goal.decreases-run_both
decreases-run_both g l = 8 * size (act_of l.left.now) + 8 * size (act_of l.right.now) + 5

abbrev pub decreases-run_branch : goal.decreases-run_branch
decreases-run_branch g l = 8 * size (act_of l.action.now) + 2

abbrev pub decreases-run_both-join+arg2 : goal.decreases-run_both-join+arg2
decreases-run_both-join+arg2 g l = 8 * size (act_of l.left.now) + 3

abbrev pub decreases-run_both-join+arg3 : goal.decreases-run_both-join+arg3
decreases-run_both-join+arg3 g l = 8 * size (act_of l.right.now) + 3
