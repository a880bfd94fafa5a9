-- What a first part read is noted before what the rest reads.
use Rattle.std.proofs.Common.{arith, rules, sym}
use Rattle.stm_terms.specs.Ast.{act_of}
use Rattle.stm_terms.specs.Changes.{cell_value}
use Rattle.stm_eval.proofs.InsertedReads.{reads_in_turn}
use Rattle.stm_eval.proofs.NestedFrames.{ran_inside, or_else_steps, catch_steps}
use Rattle.stm_eval.proofs.interpreter.+evaluate.Goals as goal

-- what `readTVar` reads is noted by then
pub step-returns-in_ok-run_read-in-Read-clause-steps : goal.step-returns-in_ok-run_read-in-Read-clause-steps
step-returns-in_ok-run_read-in-Read-clause-steps t c = record {
  outcome = search rules;
  reads = let noted = rw c.deref-in-Read.ensures.value at c.in_ok-run_read-in-Read.ensures.reads in rw c.in-Read.is (sym noted);
  made = search rules;
  below = search rules;
}

pub run_bound-returns-in_ok-push-in-Returned-clause-steps : goal.run_bound-returns-in_ok-push-in-Returned-clause-steps
run_bound-returns-in_ok-push-in-Returned-clause-steps t c = record {
  outcome = search rules;
  reads = grind (arith, reads_in_turn);
  made = grind arith;
  below = search rules;
}

pub run_first-returns-in-Returned-clause-steps : goal.run_first-returns-in-Returned-clause-steps
run_first-returns-in-Returned-clause-steps t c = record {
  outcome = search rules;
  reads = grind (arith, reads_in_turn);
  made = grind arith;
  below = search rules;
}

-- the part runs in a frame of its own, and how it ended decides what is left
pub run_left-returns-clause-steps : goal.run_left-returns-clause-steps
run_left-returns-clause-steps t c =
    let S = cell_value c.args.frozen.now in
    let a = act_of c.args.left.now in
    let ran = ran_inside S a c.args.locals.now.items c.args.log.now c.enter.new.self c.in_ok-end.end c.evaluate.new.locals.items c.evaluate.new.log
    c.in_ok-enter.ensures.done c.in_ok-end.ensures.outcome c.in_ok-end.ensures.reads c.in_ok-end.ensures.made c.in_ok-end.ensures.below c.in_ok-end.ensures.locals in
    or_else_steps S a (act_of c.args.right.now) c.args.locals.now.items c.args.log.now c.evaluate.new.locals.items c.evaluate.new.log c.after_left.result c.in_ok-end.end c.after_left.new.log ran c.after_left.ensures.goes_on

pub run_caught-returns-clause-steps : goal.run_caught-returns-clause-steps
run_caught-returns-clause-steps t c =
    let S = cell_value c.args.frozen.now in
    let a = act_of c.args.action.now in
    let ran = ran_inside S a c.args.locals.now.items c.args.log.now c.enter.new.self c.in_ok-end.end c.evaluate.new.locals.items c.evaluate.new.log
    c.in_ok-enter.ensures.done c.in_ok-end.ensures.outcome c.in_ok-end.ensures.reads c.in_ok-end.ensures.made c.in_ok-end.ensures.below c.in_ok-end.ensures.locals in
    catch_steps S a (act_of c.args.handler.now) c.args.locals.now.items c.args.log.now c.evaluate.new.locals.items c.evaluate.new.log c.after_action.result c.in_ok-end.end c.after_action.new.locals.items c.after_action.new.log ran c.after_action.ensures.goes_on
